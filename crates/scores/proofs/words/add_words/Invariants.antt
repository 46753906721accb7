-- Of the rows passed each sum has taken the word's four bytes, and the others are as they were.
use mathlib.Core.Path.{◌≡◌}
use mathlib.Core.List.{◌++◌}
use lib.ListN.{drop}
use Rattle.lists.specs.Chunks.{tab}
use Rattle.scores.proofs.GroupLaws.{word_added}
use Rattle.scores.proofs.words.add_words.Given as goal

abbrev pub invariant-loop-i : goal.invariant-loop-i
invariant-loop-i l =
    l.sums ≡ tab l.i (word_added l.query l.cells l.w l.g l.k l.initial.sums) ++ drop l.i l.initial.sums
