-- The positions passed have their rows, and each turn lends one row of each buffer.
use mathlib.Core.Path.{refl, ◌∙◌}
use native.Mathlib.Omega.{arith}
use Rattle.lists.specs.Chunks.{each}
use Rattle.shapes.proofs.ShapeLaws.{width_in}
use Rattle.buffers.proofs.HeadLaws.{rows_passed, row_turn, rows_done}
use Rattle.buffers.proofs.put_rows_in.Goals as goal

pub overflow_mul-width : goal.overflow_mul-width
overflow_mul-width c = omega (arith, width_in c.args.shape c.requires.1.in-limits)

pub loop-i-init : goal.loop-i-init
unfolding each
loop-i-init c = ((omega arith, refl, refl), (omega arith, refl, refl))

pub loop-i-preserved : goal.loop-i-preserved
loop-i-preserved c =
    row_turn (rows_passed (c.from-format.ensures ∙ c.requires.0) c.requires.1 c.cell_bytes-c.ensures c.scale_words-w.ensures) (omega arith) c.loop-i.invariant.0 c.loop-i.invariant.1 c.put_row.ensures

pub returns : goal.returns
returns c =
    let d = rows_done (rows_passed (c.from-format.ensures ∙ c.requires.0) c.requires.1 c.cell_bytes-c.ensures c.scale_words-w.ensures) (omega arith) c.loop-i.invariant.0 c.loop-i.invariant.1 in
    record { cells = rw (← c.from-format.ensures) d.0; scales = rw (← c.from-format.ensures) d.1 }
