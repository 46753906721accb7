-- The words passed are those of the dots passed, and what is left is as it was.
use mathlib.Core.Path.{refl, sym, ◌∙◌}
use native.Mathlib.Omega.{arith}
use lib.Ieee.{Float, binary32, mul}
use Rattle.lists.specs.Chunks.{tab}
use Rattle.lists.proofs.Tab.{tab-set, tab-done}
use Rattle.numbers.specs.Word.{word}
use Rattle.attention.proofs.OrderLaws.{mapped-tab}
use Rattle.scores.proofs.fours.put_scores.Goals as goal

pub loop-i-init : goal.loop-i-init
unfolding tab
loop-i-init c = refl

pub loop-i-preserved : goal.loop-i-preserved
loop-i-preserved c = tab-set _ _ _ (omega arith) c.loop-i.invariant c.f32_to_word.ensures

pub returns : goal.returns
returns c =
    tab-done _ _ _ c.loop-i.invariant (omega arith) c.requires
    ∙ sym (mapped-tab (λ (dot : Float). word (mul binary32 dot c.args.scale)) c.args.dots.now)
