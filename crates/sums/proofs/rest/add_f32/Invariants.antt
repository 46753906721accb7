-- The terms passed are added, and what is left is as it was.
use mathlib.Core.Path.{◌≡◌}
use Rattle.attention.specs.Order.{f32_term}
use Rattle.attention.proofs.OrderLaws.{added_to}
use Rattle.sums.proofs.rest.add_f32.Given as goal

abbrev pub invariant-loop-d : goal.invariant-loop-d
invariant-loop-d l = l.out ≡ added_to l.d (f32_term l.weight l.cells) l.initial.out
