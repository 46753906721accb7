-- The total so far is that of the groups passed.
use mathlib.Core.Path.{◌≡◌}
use Rattle.attention.specs.Order.{summed}
use Rattle.scores.proofs.GroupLaws.{group_term}
use Rattle.scores.proofs.rest.score_int4.Given as goal

abbrev pub invariant-loop-g : goal.invariant-loop-g
invariant-loop-g l = l.total ≡ summed l.g (group_term l.query l.cells l.scales)
