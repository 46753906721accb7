-- The groups passed are added, and what is left is as it was.
use mathlib.Core.Path.{◌≡◌}
use Prim.Native.Nat.{◌*◌}
use Rattle.attention.specs.Order.{int4_term}
use Rattle.attention.proofs.OrderLaws.{added_to}
use Rattle.sums.proofs.rest.add_int4.Given as goal

abbrev pub invariant-loop-g : goal.invariant-loop-g
invariant-loop-g l = l.out ≡ added_to (l.g * 32) (int4_term l.weight l.cells l.scales) l.initial.out
