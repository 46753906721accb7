-- The terms passed are added, and what is left is as it was.
use mathlib.Core.Path.{refl}
use native.Mathlib.Omega.{arith}
use Rattle.lists.specs.Chunks.{tab}
use Rattle.attention.proofs.OrderLaws.{added_next, added-all}
use Rattle.sums.proofs.rest.add_f32.Goals as goal

pub loop-d-init : goal.loop-d-init
unfolding tab
loop-d-init c = refl

pub loop-d-preserved : goal.loop-d-preserved
loop-d-preserved c = added_next _ c.args.out.now _ (omega arith) c.loop-d.invariant (rw (c.word_to_f32.ensures, c.word_at.ensures))

pub returns : goal.returns
returns c = added-all _ _ c.loop-d.invariant (omega arith)
