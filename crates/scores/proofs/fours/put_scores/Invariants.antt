-- The words passed are those of the dots passed, and what is left is as it was.
use mathlib.Core.Path.{◌≡◌}
use mathlib.Core.List.{◌++◌}
use lib.ListN.{get_or, drop}
use lib.Ieee.{nan, binary32, mul}
use Rattle.lists.specs.Chunks.{tab}
use Rattle.numbers.specs.Word.{word}
use Rattle.scores.proofs.fours.put_scores.Given as goal

abbrev pub invariant-loop-i : goal.invariant-loop-i
invariant-loop-i l = l.out ≡ tab l.i (λ j. word (mul binary32 (get_or l.dots j nan) l.scale)) ++ drop l.i l.initial.out
