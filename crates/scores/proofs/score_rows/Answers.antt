-- The first scores are those of the fours, and the rest are those of the rows that are left.
use mathlib.Core.Path.{◌≡◌, refl, ◌∙◌}
use Prim.Native.Nat.{◌+◌, ◌-◌, ◌*◌, ◌/◌}
use native.Mathlib.Omega.{arith}
use lib.ListN.{length}
use Rattle.lists.proofs.Tab.{tab_lent, tab-done}
use Rattle.shapes.specs.Format.{format_number}
use Rattle.attention.specs.Order.{scores_of}
use Rattle.attention.specs.Block.{scores_of_block}
use Rattle.attention.proofs.PartLaws.{score_at}
use Rattle.scores.proofs.BlockLaws.{scores_from}
use Rattle.scores.proofs.score_rows.Goals as goal

pub returns : goal.returns
unfolding scores_of_block scores_of
returns c =
    let args = c.args in
    let b = args.block.now in
    let m = length c.score_fours.new.out in
    let same : m ≡ length args.out.now = c.score_fours.auto.out in
    let p = m / 4 * 4 in
    let score = score_at (format_number b.format) args.query.now args.scale b.cells.now b.scales.now in
    let whole : p + (m - p) ≡ m = omega arith in
    let rest = c.part-rest.ensures in
    let left = scores_from b args.query.now args.scale p (m - p) c.requires.0 (omega arith) rest.shape.0 rest.cells rest.scales in
    let fours = rw (← same) at c.score_fours.ensures in
    tab-done _ score args.out.now (tab_lent p (m - p) score args.out.now fours whole (c.score_rest.ensures ∙ left)) same refl
