-- Each sum so far is that of its row's numbers passed.
use mathlib.Core.Path.{◌≡◌}
use Rattle.numbers.specs.Word.{float}
use lib.ListN.{replicate}
use Rattle.lists.specs.Chunks.{turns}
use Rattle.attention.specs.Order.{added}
use Rattle.scores.proofs.BlockLaws.{number_term}
use Rattle.scores.proofs.fours.four_f32.Given as goal

abbrev pub invariant-loop-d : goal.invariant-loop-d
invariant-loop-d l = l.sums ≡ turns l.d (λ d. added (number_term l.query l.cells d)) (replicate 4 (float 0))
