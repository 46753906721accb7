-- The sum so far is that of the bytes passed, the low code's product before the high one's.
use mathlib.Core.Path.{◌≡◌}
use Rattle.lists.specs.Chunks.{turns}
use Rattle.numbers.specs.Word.{float}
use Rattle.attention.specs.Order.{add_byte}
use Rattle.scores.proofs.rest.dot_group.Given as goal

abbrev pub invariant-loop-i : goal.invariant-loop-i
invariant-loop-i l = l.sum ≡ turns l.i (add_byte l.query l.bytes) (float 0)
