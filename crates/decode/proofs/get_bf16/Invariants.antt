-- The numbers passed are read from the cells passed, and what is left is as it was.
use mathlib.Core.Path.{◌≡◌}
use mathlib.Core.List.{◌++◌}
use Prim.Native.Nat.{◌*◌}
use lib.ListN.{drop}
use Rattle.lists.specs.Chunks.{tab, part}
use Rattle.numbers.specs.Word.{from_bf16}
use Rattle.lists.specs.Bytes.{from_little}
use Rattle.decode.proofs.get_bf16.Given as goal

abbrev pub invariant-loop-d : goal.invariant-loop-d
invariant-loop-d l = l.out ≡ tab l.d (λ i. from_bf16 (from_little (part (i * 2) 2 l.cells))) ++ drop l.d l.initial.out
