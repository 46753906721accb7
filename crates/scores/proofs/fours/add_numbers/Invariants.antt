-- The terms passed are added, and what is left is as it was.
use mathlib.Core.Path.{◌≡◌}
use Prim.Native.Nat.{◌+◌, ◌*◌}
use lib.Ieee.{binary32, mul}
use Rattle.numbers.specs.Word.{float}
use Rattle.rows.specs.Row.{f32_at}
use Rattle.attention.proofs.OrderLaws.{added_to}
use Rattle.scores.proofs.fours.add_numbers.Given as goal

abbrev pub invariant-loop-i : goal.invariant-loop-i
invariant-loop-i l = l.sums ≡ added_to l.i (λ i. mul binary32 l.q (float (f32_at l.cells (i * l.n + l.d)))) l.initial.sums
