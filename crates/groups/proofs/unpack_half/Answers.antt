-- The numbers passed are those of the half, and what is left is as it was.
use mathlib.Core.Path.{refl}
use native.Mathlib.Omega.{arith}
use Rattle.lists.specs.Chunks.{tab}
use Rattle.lists.proofs.Tab.{tab-set, tab-done}
use Rattle.groups.specs.Group.{half}
use Rattle.groups.proofs.unpack_half.Goals as goal

pub loop-i-init : goal.loop-i-init
unfolding tab
loop-i-init c = refl

pub loop-i-preserved : goal.loop-i-preserved
loop-i-preserved c = tab-set _ _ _ (omega arith) c.loop-i.invariant (cc)

pub returns : goal.returns
unfolding half
returns c = tab-done _ _ _ c.loop-i.invariant (omega arith) c.requires.1
