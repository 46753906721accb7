-- The digits before an index have been taken in.
use mathlib.Core.Path.{◌≡◌}
use Prim.Native.Nat.{◌+◌}
use lib.ListN.{get_or}
use Rattle.lists.specs.Chunks.{turns}
use Rattle.test_lines.specs.Line.{digit_of, with_digit_of}
use Rattle.test_lines.proofs.hex_at.Given as goal

abbrev pub invariant-loop-b : goal.invariant-loop-b
invariant-loop-b l = l.word ≡ turns l.b-index (λ j x. with_digit_of x (digit_of (get_or l.text (l.at + j) 0))) 0
