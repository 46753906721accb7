-- At the places passed the four terms are added and the NaNs of the next rows counted, and what is left is as it was.
use mathlib.Core.Path.{◌≡◌}
use mathlib.Core.List.{◌++◌}
use Prim.Native.Nat.{◌+◌}
use lib.ListN.{length, drop}
use Rattle.lists.specs.Chunks.{tab, turns}
use Rattle.sums.proofs.NanLaws.{four_nans}
use Rattle.sums.proofs.SumLaws.{with_four}
use Rattle.sums.proofs.fours.add_plain.Given as goal

abbrev pub invariant-loop-d : goal.invariant-loop-d
invariant-loop-d l =
    (l.out ≡ tab l.d (with_four l.weights l.cells l.initial.out) ++ drop l.d l.initial.out)
    × (l.nans ≡ turns l.d (λ d nans. nans + four_nans l.next (length l.initial.out) d) 0)
