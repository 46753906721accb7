-- The numbers passed are read from the cells passed, and what is left is as it was.
use mathlib.Core.Path.{◌≡◌}
use mathlib.Core.List.{◌++◌}
use lib.ListN.{get_or, drop}
use Rattle.lists.specs.Chunks.{tab}
use Rattle.numbers.specs.Word.{word}
use Rattle.numbers.specs.Code.{read8}
use Rattle.decode.proofs.get_int8.Given as goal

abbrev pub invariant-loop-d : goal.invariant-loop-d
invariant-loop-d l = l.out ≡ tab l.d (λ i. word (read8 (get_or l.cells i 0) l.scale)) ++ drop l.d l.initial.out
