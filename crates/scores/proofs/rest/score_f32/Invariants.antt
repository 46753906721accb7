-- The sum so far is that of the numbers passed.
use mathlib.Core.Path.{◌≡◌}
use lib.ListN.{get_or}
use lib.Ieee.{nan, binary32, mul}
use Rattle.numbers.specs.Word.{float}
use Rattle.rows.specs.Row.{f32_at}
use Rattle.attention.specs.Order.{summed}
use Rattle.scores.proofs.rest.score_f32.Given as goal

abbrev pub invariant-loop-d : goal.invariant-loop-d
invariant-loop-d l = l.sum ≡ summed l.d (λ i. mul binary32 (get_or l.query i nan) (float (f32_at l.cells i)))
