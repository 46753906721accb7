-- The NaNs passed are counted.
use mathlib.Core.Path.{◌≡◌}
use Prim.Native.Nat.{◌+◌}
use Rattle.lists.specs.Chunks.{turns}
use Rattle.sums.proofs.NanLaws.{nan_count}
use Rattle.sums.proofs.stored.nans.Given as goal

abbrev pub invariant-loop-d : goal.invariant-loop-d
invariant-loop-d l = l.count ≡ turns l.d (λ i sum. sum + nan_count l.cells i) 0
