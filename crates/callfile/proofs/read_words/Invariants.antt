-- The numbers passed are read, and what is left is as it was.
use mathlib.Core.Path.{◌≡◌}
use mathlib.Core.List.{◌++◌}
use Prim.Native.Nat.{◌+◌, ◌*◌, ◌≤◌}
use lib.ListN.{length, drop}
use Rattle.lists.specs.Chunks.{tab}
use Rattle.callfile.specs.Format.{number_at}
use Rattle.callfile.proofs.read_words.Given as goal

abbrev pub invariant-loop-i : goal.invariant-loop-i
invariant-loop-i l = (l.i ≤ length l.initial.out) × (l.out ≡ tab l.i (λ j. number_at 4 l.file (l.at + 4 * j)) ++ drop l.i l.initial.out) × (length l.out ≡ length l.initial.out)
