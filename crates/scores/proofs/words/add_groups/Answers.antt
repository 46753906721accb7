-- The terms passed are added, and what is left is as it was.
use mathlib.Core.Path.{refl}
use native.Mathlib.Omega.{arith}
use Rattle.lists.specs.Chunks.{tab}
use Rattle.attention.proofs.OrderLaws.{added_next, added-all}
use Rattle.scores.proofs.words.add_groups.Goals as goal

pub loop-i-init : goal.loop-i-init
unfolding tab
loop-i-init c = refl

pub loop-i-preserved : goal.loop-i-preserved
loop-i-preserved c = added_next _ _ _ (omega arith) c.loop-i.invariant (rw c.word_to_f32.ensures)

pub returns : goal.returns
returns c = added-all _ _ c.loop-i.invariant (omega arith)
