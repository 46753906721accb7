-- Each byte of the word that is passed has taken its turn.
use mathlib.Core.Path.{◌≡◌}
use Prim.Native.Nat.{◌+◌}
use Rattle.lists.specs.Chunks.{turns}
use Rattle.attention.specs.Order.{add_byte}
use Rattle.scores.proofs.words.lane_word.Given as goal

abbrev pub invariant-loop-k : goal.invariant-loop-k
invariant-loop-k l = l.next ≡ turns l.k (λ j. add_byte l.query l.bytes (l.i + j)) l.sum
