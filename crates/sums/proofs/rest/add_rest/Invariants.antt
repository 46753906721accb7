-- The terms of the positions passed are added, in their order.
use mathlib.Core.Path.{◌≡◌}
use Rattle.lists.specs.Chunks.{turns}
use Rattle.sums.proofs.SumLaws.{row_added}
use Rattle.sums.proofs.rest.add_rest.Given as goal

abbrev pub invariant-loop-p : goal.invariant-loop-p
invariant-loop-p l = l.out ≡ turns l.p (row_added l.block l.weights) l.initial.out
