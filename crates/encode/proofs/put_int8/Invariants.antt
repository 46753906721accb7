-- The cells passed hold the codes of the numbers passed, under the one scale, and what is left is as it was.
use mathlib.Core.Path.{◌≡◌}
use mathlib.Core.List.{◌++◌}
use lib.ListN.{get_or, drop}
use Rattle.lists.specs.Chunks.{tab}
use Rattle.numbers.specs.Code.{code8}
use Rattle.encode.proofs.put_int8.Given as goal

abbrev pub invariant-loop-d : goal.invariant-loop-d
invariant-loop-d l = l.cells ≡ tab l.d (λ i. code8 (get_or l.run i 0) l.scale) ++ drop l.d l.initial.cells
