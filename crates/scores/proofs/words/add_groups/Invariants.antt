-- The terms passed are added, and what is left is as it was.
use mathlib.Core.Path.{◌≡◌}
use Prim.Native.Nat.{◌+◌, ◌*◌}
use lib.ListN.{get_or}
use lib.Ieee.{nan, binary32, mul}
use Rattle.numbers.specs.Word.{float}
use Rattle.attention.proofs.OrderLaws.{added_to}
use Rattle.scores.proofs.words.add_groups.Given as goal

abbrev pub invariant-loop-i : goal.invariant-loop-i
invariant-loop-i l = l.totals ≡ added_to l.i (λ i. mul binary32 (get_or l.fn.sums i nan) (float (get_or l.scales (i * l.w + l.g) 0))) l.initial.totals
