-- The words passed are those of the sums passed, and what is left is as it was.
use mathlib.Core.Path.{◌≡◌}
use mathlib.Core.List.{◌++◌}
use lib.ListN.{get_or, drop}
use lib.Ieee.{nan}
use Rattle.lists.specs.Chunks.{tab}
use Rattle.numbers.specs.Word.{word}
use Rattle.sums.proofs.put_sums.Given as goal

abbrev pub invariant-loop-i : goal.invariant-loop-i
invariant-loop-i l = l.out ≡ tab l.i (λ j. word (get_or l.sums j nan)) ++ drop l.i l.initial.out
