-- F32 rows lent two by two of four, and some of a block's: where none of four has a NaN no two have one, and the terms of some are the block's.
-- Each holds number by number, since two rows have half of the numbers of four.
use mathlib.Core.Path.{◌≡◌, sym, ◌∙◌}
use mathlib.Core.Bool.{Bool, false, ◌||◌}
use mathlib.Core.List.{List}
use Prim.Native.Nat.{ℕ, ◌+◌, ◌*◌, ◌/◌, ◌≤◌, ◌<◌}
use native.Mathlib.Nat.{add-mul, mul_assoc, zero-mul, zero-add, mul-le-mul_right}
use native.Mathlib.Omega.{arith}
use lib.ListN.{length}
use lib.Seq.{get_or-take, get_or-drop}
use lib.Ieee.{Float, nan}
use Rattle.lists.specs.Chunks.{turns, some, part}
use Rattle.lists.proofs.Part.{part_length, part-part, part_chunk}
use Rattle.lists.proofs.Some.{some_none, some_never, sum_none}
use Rattle.lists.proofs.Turns.{turns_same, turns-add}
use Rattle.shapes.specs.Shape.{cell_bytes_of}
use Rattle.shapes.specs.Buffers.{buffers}
use Rattle.rows.specs.Row.{f32_at}
use Rattle.rows.proofs.FitLaws.{fits_facts}
use Rattle.attention.specs.Order.{scorings, row_term, added}
use Rattle.attention.specs.Block.{block_term}
use Rattle.attention.specs.Fits.{ScoredRows, IsF32}
use Rattle.attention.proofs.ScoringLaws.{f32_bytes}
use Rattle.sums.proofs.NanLaws.{nan_count, Plain, one_at_most, none_counted}

-- the terms of k rows from row p on, which are lent as a part, after those of the rows before
module _ (weights : List Float) (cells scales : List ℕ) (d : ℕ) (h : ScoredRows 0 d (length weights) (length cells) (length scales)) where
  abbrev add_row_of : ℕ → List Float → List Float
  add_row_of i = added (block_term 0 weights (buffers cells scales) d i)

  part-term : (p k i : ℕ) → i < k
      → block_term 0 (part p k weights) (buffers (part (p * cell_bytes_of 0 d) (k * cell_bytes_of 0 d) cells) scales) d i ≡ block_term 0 weights (buffers cells scales) d (p + i)
  unfolding row_term scorings
  part-term p k i w = rw (get_or-take k _ i nan w, get_or-drop p weights i nan, part_chunk (cell_bytes_of 0 d) p k i cells w)

  pub f32_after : (p k : ℕ) (x : List Float) {u y z : List Float} {a : List ℕ} → p + k ≤ length weights → length y ≡ d → u ≡ part p k weights
      → a ≡ part (p * (d * 4)) (k * (d * 4)) cells → y ≡ turns p add_row_of x
      → z ≡ turns (length u) (λ i. added (block_term 0 u (buffers a scales) (length y) i)) y → z ≡ turns (p + k) add_row_of x
  f32_after p k x {u} {y} b l eu ea o e =
      rw (turns-add p k add_row_of x, ← o)
      (e ∙ rw (eu, ea, sym (f32_bytes d), l, part_length p k weights b) (turns_same k _ _ y (λ i w. rw (part-term p k i w))))

-- two rows of four, from row i on
abbrev pub half : ℕ → List ℕ → List ℕ
half i l = part (i * (length l / 4)) (2 * (length l / 4)) l

-- two rows in which it holds of none
some_join : (n : ℕ) (p : ℕ → Bool) → some n p ≡ false → some n (λ d. p (n + d)) ≡ false → some (2 * n) p ≡ false
unfolding some
some_join n p h g = let e : 2 * n ≡ n + n = omega arith in rw (e, turns-add n n (λ i found. found || p i) false, h) g

-- four rows of n numbers counted at once, two by two
module _ (n : ℕ) (n0 n2 : List ℕ) where
  abbrev pub pair_nans : ℕ → ℕ
  pair_nans d = nan_count n0 d + nan_count n0 (n + d) + nan_count n2 d + nan_count n2 (n + d)

  pub pair_at_most : (d : ℕ) → pair_nans d ≤ 4
  pair_at_most d = omega (arith, one_at_most n0 d, one_at_most n0 (n + d), one_at_most n2 d, one_at_most n2 (n + d))

  pairs_plain : turns n (λ d nans. nans + pair_nans d) 0 ≡ 0 → Plain (2 * n) n0 × Plain (2 * n) n2
  pairs_plain e = (
    some_join n _ (sum_none n pair_nans _ (λ d z. none_counted _ (omega arith)) e) (sum_none n pair_nans _ (λ d z. none_counted _ (omega arith)) e),
    some_join n _ (sum_none n pair_nans _ (λ d z. none_counted _ (omega arith)) e) (sum_none n pair_nans _ (λ d z. none_counted _ (omega arith)) e),
  )

module _ (n : ℕ) (cells : List ℕ) (four : length cells ≡ 4 * (n * 4)) where
  -- two rows from row i on have the numbers from i times as many on
  half_number : (i d : ℕ) → d < 2 * n → f32_at (half i cells) d ≡ f32_at cells (i * n + d)
  half_number i d b =
      let q : length cells / 4 ≡ n * 4 = omega arith in
      let w : d * 4 + 4 ≤ 2 * (n * 4) = omega arith in
      rw (q, part-part (i * (n * 4)) (2 * (n * 4)) (d * 4) 4 cells w, add-mul, mul_assoc)

  half_length : (i : ℕ) → i ≤ 2 → length (half i cells) ≡ 2 * n * 4
  half_length i b =
      let q : length cells / 4 ≡ n * 4 = omega arith in
      rw (q, part_length (i * (n * 4)) (2 * (n * 4)) cells (omega (arith, mul-le-mul_right (n * 4) b))) (omega arith)

  -- so where the four have no NaN, no two rows have one
  half_plain : (i : ℕ) {r : List ℕ} → i ≤ 2 → r ≡ half i cells → Plain (4 * n) cells → Plain (2 * n) r
  half_plain i b e h = some_never _ _ (λ d w. rw (e, half_number i d w) (some_none _ (i * n + d) _ h (omega (arith, mul-le-mul_right n b))))

  -- and where none is counted in them, the four have none
  pub scanned : {n0 n2 : List ℕ} {nans : ℕ} → n0 ≡ half 0 cells → n2 ≡ half 2 cells → nans ≡ turns n (λ d sum. sum + pair_nans n n0 n2 d) 0 → nans ≡ 0
      → Plain (4 * n) cells
  scanned {n0} {n2} e0 e2 o z =
      let p = pairs_plain n n0 n2 (sym o ∙ z) in
      let four : 4 * n ≡ 2 * (2 * n) = omega arith in
      rw four
      (some_join (2 * n) _ (some_never _ _ (λ d w. rw (e0, half_number 0 d w, zero-mul, zero-add) at (some_none (2 * n) d _ p.0 w)))
      (some_never _ _ (λ d w. rw (e2, half_number 2 d w) at (some_none (2 * n) d _ p.1 w))))

-- two rows of four without a NaN
module _ (cells scales : List ℕ) (l : List Float) (h : ScoredRows 0 (length l) 4 (length cells) (length scales)) where
  pub plain_rows : (i : ℕ) (r : List ℕ) → i ≤ 2 → Plain (4 * length l) cells → r ≡ half i cells
      → IsF32 (2 * length l) (length r) × Plain (2 * length l) r
  plain_rows i r b p e =
      let four : length cells ≡ 4 * (length l * 4) = rw (sym (f32_bytes (length l))) (fits_facts h.1).cell-bytes in
      (rw e (half_length (length l) cells four i b), half_plain (length l) cells four i b e p)
