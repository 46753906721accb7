-- The words passed are those of the sums passed, and what is left is as it was.
use mathlib.Core.Path.{refl, sym, ◌∙◌}
use native.Mathlib.Omega.{arith}
use Rattle.std.proofs.lemmas.Grind.{get_or_head, get_or_tail}
use Rattle.lists.specs.Chunks.{tab}
use Rattle.lists.proofs.Tab.{tab-set, tab-done}
use Rattle.numbers.specs.Word.{word}
use Rattle.attention.proofs.OrderLaws.{mapped-tab}
use Rattle.sums.proofs.put_sums.Goals as goal

pub loop-i-init : goal.loop-i-init
unfolding tab
loop-i-init c = refl

-- what is stored is the sum's word, and the search finds it so in an array of words too
pub loop-i-preserved : goal.loop-i-preserved
loop-i-preserved c = tab-set _ _ _ (omega arith) c.loop-i.invariant (grind (arith, get_or_head, get_or_tail))

pub returns : goal.returns
returns c = tab-done _ _ _ c.loop-i.invariant (omega arith) c.requires ∙ sym (mapped-tab word c.args.sums.now)
