-- The terms of the rows passed are added, and the NaNs of the next ones counted.
use mathlib.Core.Path.{◌≡◌}
use Prim.Native.Nat.{◌+◌, ◌*◌}
use lib.ListN.{get_or}
use lib.Ieee.{nan, binary32, add}
use Rattle.lists.specs.Chunks.{turns}
use Rattle.attention.specs.Order.{f32_term}
use Rattle.sums.proofs.NanLaws.{nan_count}
use Rattle.sums.proofs.fours.with_terms.Given as goal

abbrev pub invariant-loop-i : goal.invariant-loop-i
invariant-loop-i l =
    (l.now.sum ≡ turns l.i (λ i sum. add binary32 sum (f32_term (get_or l.weights i nan) l.cells (i * l.n + l.d))) l.fn.tally.sum)
    × (l.now.nans ≡ l.fn.tally.nans + turns l.i (λ i nans. nans + nan_count l.next (i * l.n + l.d)) 0)
