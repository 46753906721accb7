-- The total so far is that of the groups passed.
use mathlib.Core.Path.{refl}
use Prim.Native.Nat.{◌*◌}
use native.Mathlib.Nat.{add-sub_cancel_left}
use native.Mathlib.Omega.{arith}
use Rattle.lists.specs.Chunks.{turns}
use Rattle.attention.specs.Order.{summed}
use Rattle.attention.proofs.OrderLaws.{summed_next}
use Rattle.scores.proofs.GroupLaws.{groups_all}
use Rattle.scores.proofs.rest.score_int4.Goals as goal

pub loop-g-init : goal.loop-g-init
unfolding summed turns
loop-g-init c = refl

pub loop-g-preserved : goal.loop-g-preserved
loop-g-preserved c =
    let g = c.loop-g.g in
    let query = add-sub_cancel_left (g * 32) 32 in
    let cells = add-sub_cancel_left (g * 16) 16 in
    summed_next _ _ c.loop-g.invariant (rw (c.dot_group-total.ensures, c.word_to_f32.ensures, query, cells))

pub returns : goal.returns
returns c = groups_all _ _ _ _ c.loop-g.g c.loop-g.invariant (omega arith)
