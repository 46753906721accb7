-- The bytes passed are those of the group, and what is left is as it was.
use mathlib.Core.Path.{◌≡◌, refl}
use native.Mathlib.Omega.{arith}
use Rattle.lists.specs.Chunks.{tab}
use Rattle.lists.proofs.Tab.{tab-set}
use Rattle.groups.specs.Group.{packed}
use Rattle.groups.proofs.pack.Goals as goal

pub loop-i-init : goal.loop-i-init
unfolding tab
loop-i-init c = refl

pub loop-i-preserved : goal.loop-i-preserved
loop-i-preserved c = tab-set _ _ _ (omega arith) c.loop-i.invariant (rw (c.quantize_i4-low.ensures, c.quantize_i4-high.ensures))

pub returns : goal.returns
unfolding packed
returns c = let e : c.loop-i.i ≡ 16 = omega arith in cc
