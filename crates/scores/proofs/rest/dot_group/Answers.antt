-- The sum so far is that of the bytes passed, the low code's product before the high one's.
use mathlib.Core.Path.{◌≡◌, refl}
use native.Mathlib.Nat.{div-one}
use native.Mathlib.Omega.{arith}
use Rattle.lists.specs.Chunks.{turns}
use Rattle.lists.proofs.Turns.{turns_next}
use Rattle.attention.specs.Order.{group_dot}
use Rattle.scores.proofs.rest.dot_group.Goals as goal

pub loop-i-init : goal.loop-i-init
unfolding turns
loop-i-init c = refl

pub loop-i-preserved : goal.loop-i-preserved
loop-i-preserved c = turns_next _ _ _ c.loop-i.invariant (rw (c.less_8.ensures, c.less_8-in-loop-i.ensures, div-one))

pub returns : goal.returns
unfolding group_dot
returns c = let e : c.loop-i.i ≡ 16 = omega arith in rw (c.loop-i.invariant, e)
