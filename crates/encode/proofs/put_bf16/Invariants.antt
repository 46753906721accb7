-- The cells passed hold the numbers passed, and what is left is as it was.
use lib.ListN.{length, get_or}
use Rattle.lists.proofs.Loop.{Passed}
use Rattle.numbers.specs.Word.{bf16}
use Rattle.lists.specs.Bytes.{little}
use Rattle.encode.proofs.put_bf16.Given as goal

abbrev pub invariant-loop-d : goal.invariant-loop-d
invariant-loop-d l = Passed 2 (length l.run) (λ i x. little 2 (bf16 (get_or l.run i 0))) l.initial.cells l.d l.cells
