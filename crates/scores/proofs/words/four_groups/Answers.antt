-- Each sum so far is that of the bytes passed of its own row, which are whole words.
use mathlib.Core.Path.{◌≡◌, refl}
use native.Mathlib.Omega.{arith}
use Rattle.lists.specs.Chunks.{tab, turns}
use Rattle.scores.proofs.GroupLaws.{words_turn}
use Rattle.attention.specs.Order.{group_dot}
use Rattle.scores.proofs.words.four_groups.Goals as goal

pub loop-k-init : goal.loop-k-init
unfolding tab turns
loop-k-init c = (refl, refl, omega arith)

pub loop-k-preserved : goal.loop-k-preserved
loop-k-preserved c = (words_turn _ _ _ _ c.loop-k.k c.loop-k.invariant.0 c.add_words.ensures, omega arith, omega arith)

pub returns : goal.returns
unfolding group_dot
returns c = let e : c.loop-k.k ≡ 16 = omega arith in rw e at c.loop-k.invariant.0
