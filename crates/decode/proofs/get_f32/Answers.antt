-- The numbers passed are read from the cells passed, and what is left is as it was.
use mathlib.Core.Path.{refl, ◌∙◌}
use native.Mathlib.Omega.{arith}
use Rattle.lists.specs.Chunks.{tab}
use Rattle.lists.proofs.Tab.{tab-set, tab-done}
use Rattle.rows.specs.Row.{f32_numbers}
use Rattle.decode.proofs.DecodeLaws.{number_at}
use Rattle.decode.proofs.get_f32.Goals as goal

pub loop-d-init : goal.loop-d-init
unfolding tab
loop-d-init c = refl

pub loop-d-preserved : goal.loop-d-preserved
loop-d-preserved c =
    tab-set _ _ _ (omega arith) c.loop-d.invariant (c.from_le_bytes.ensures ∙ number_at 3 c.loop-d.d c.args.cells.now c.as_chunks.ensures.front (omega arith))

pub returns : goal.returns
unfolding f32_numbers
returns c = tab-done _ _ _ c.loop-d.invariant (omega arith) refl
