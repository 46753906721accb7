-- The groups passed are added, and what is left is as it was.
use mathlib.Core.Path.{refl}
use Prim.Native.Nat.{◌*◌}
use native.Mathlib.Nat.{add-sub_cancel_left}
use native.Mathlib.Omega.{arith}
use Rattle.lists.specs.Chunks.{tab}
use Rattle.attention.proofs.OrderLaws.{added_lent, added-all}
use Rattle.sums.proofs.RowLaws.{group-term}
use Rattle.sums.proofs.rest.add_int4.Goals as goal

pub loop-g-init : goal.loop-g-init
unfolding tab
loop-g-init c = refl

pub loop-g-preserved : goal.loop-g-preserved
loop-g-preserved c =
    let start = c.args in
    let g = c.loop-g.g in
    added_lent _ start.out.now (g * 32) 32 _ c.loop-g.invariant refl (omega arith) (omega arith)
    (λ i b. rw (c.word_to_f32.ensures, add-sub_cancel_left) (group-term _ start.cells.now start.scales.now g i b)) c.add_group.ensures

pub returns : goal.returns
returns c = added-all _ _ c.loop-g.invariant (omega arith)
