-- The cells passed hold the numbers passed, and what is left is as it was.
use lib.ListN.{length, get_or}
use Rattle.lists.proofs.Loop.{Passed}
use Rattle.lists.specs.Bytes.{little}
use Rattle.encode.proofs.put_words.Given as goal

abbrev pub invariant-loop-d : goal.invariant-loop-d
invariant-loop-d l = Passed 4 (length l.words) (λ i x. little 4 (get_or l.words i 0)) l.initial.cells l.d l.cells
