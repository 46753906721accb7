-- The scores passed are those of the positions passed, and what is left is as it was.
use mathlib.Core.Path.{◌≡◌, refl, ◌∙◌}
use native.Mathlib.Nat.{one-mul}
use native.Mathlib.Omega.{arith}
use lib.ListN.{length}
use Rattle.lists.specs.Chunks.{tab}
use Rattle.lists.proofs.Tab.{tab-set, tab-done}
use Rattle.shapes.specs.Format.{format_number}
use Rattle.shapes.specs.Shape.{cell_bytes_of, scale_words_of}
use Rattle.attention.specs.Order.{scores_of}
use Rattle.attention.specs.Block.{scores_of_block}
use Rattle.scores.proofs.rest.score_rest.Goals as goal

pub loop-p-init : goal.loop-p-init
unfolding tab
loop-p-init c = refl

pub loop-p-preserved : goal.loop-p-preserved
loop-p-preserved c =
    let b = c.args.block.now in
    let r : b.row_cells ≡ cell_bytes_of (format_number b.format) (length c.args.query.now) = rw c.requires.0 at b.fits.1 in
    let v : b.row_scales ≡ scale_words_of (format_number b.format) (length c.args.query.now) = rw c.requires.0 at b.fits.2 in
    let row = c.part.ensures in
    tab-set _ _ _ (omega arith) c.loop-p.invariant
    (c.f32_to_word.ensures ∙ rw (c.score_row.ensures, row.shape.0, row.cells, row.scales, r, v, one-mul, one-mul))

pub returns : goal.returns
unfolding scores_of_block scores_of
returns c = tab-done _ _ _ c.loop-p.invariant (omega arith) refl
