-- The scores passed are those of the rows passed, four by four, and what is left is as it was.
use mathlib.Core.Path.{◌≡◌, refl, ◌∙◌}
use Prim.Native.Nat.{◌+◌, ◌*◌, ◌/◌}
use native.Mathlib.Omega.{arith}
use lib.ListN.{length}
use Rattle.lists.specs.Chunks.{tab}
use Rattle.lists.proofs.Tab.{tab_lent}
use Rattle.attention.specs.Order.{scores_of}
use Rattle.attention.specs.Block.{scores_of_block}
use Rattle.scores.proofs.BlockLaws.{four_scores, scores_from}
use Rattle.scores.proofs.score_fours.Goals as goal

pub loop-k-init : goal.loop-k-init
unfolding tab
loop-k-init c = refl

pub loop-k-preserved : goal.loop-k-preserved
loop-k-preserved c =
    let args = c.args in
    let k = c.loop-k.k in
    let four = c.part-four in
    let s : (k + 1) * 4 ≡ k * 4 + 4 = omega arith in
    let scores = scores_from args.block.now args.query.now args.scale (k * 4) 4 c.requires.0 refl four.ensures.shape.0 four.ensures.cells four.ensures.scales in
    rw s
    (tab_lent (k * 4) 4 _ args.out.now c.loop-k.invariant refl
    (four_scores args.query.now _ _ _ args.scale _ c.four_dots.ensures c.put_scores.ensures ∙ scores))

pub returns : goal.returns
unfolding scores_of_block scores_of
returns c = let e : c.loop-k.k ≡ length c.args.out.now / 4 = omega arith in rw e at c.loop-k.invariant
