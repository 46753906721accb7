-- Each sum so far is that of the bytes passed of its own row, which are whole words.
use mathlib.Core.Path.{◌≡◌}
use Prim.Native.Nat.{◌+◌, ◌-◌, ◌*◌, ◌%◌, ◌≤◌}
use Rattle.lists.specs.Chunks.{tab, turns, part}
use Rattle.numbers.specs.Word.{float}
use Rattle.attention.specs.Order.{add_byte}
use Rattle.scores.proofs.words.four_groups.Given as goal

abbrev pub invariant-loop-k : goal.invariant-loop-k
invariant-loop-k l =
    (l.sums ≡ tab 4 (λ i. turns l.k (add_byte l.query (part ((i * l.w + l.g) * 16) 16 l.cells)) (float 0))) × (l.k % 4 ≡ 0) × (l.k ≤ 16)

abbrev pub decreases-loop-k : goal.decreases-loop-k
decreases-loop-k l = 16 - l.k
