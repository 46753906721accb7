-- Some rows of a block, lent as a part: their terms are the block's; and four F32 rows at once.
-- Each holds since the rows lie one after the other.
use mathlib.Core.Path.{◌≡◌, ◌∙◌}
use mathlib.Core.List.{List}
use Prim.Native.Nat.{ℕ, ◌+◌, ◌*◌, ◌≤◌, ◌<◌}
use native.Mathlib.Omega.{arith}
use lib.ListN.{length, get_or}
use lib.Seq.{get_or-take, get_or-drop}
use lib.Ieee.{Float, nan, binary32, add}
use Rattle.lists.specs.Chunks.{turns, part}
use Rattle.lists.proofs.Part.{part_length, part_chunk}
use Rattle.lists.proofs.Turns.{turns_same, turns-add}
use Rattle.shapes.specs.declared.Format.{Format}
use Rattle.shapes.specs.Format.{format_number}
use Rattle.shapes.specs.Buffers.{buffers}
use Rattle.attention.specs.Order.{scorings, f32_term, row_term, added}
use Rattle.attention.specs.Block.{block_term, rows_added}
use Rattle.attention.specs.declared.block.Block.{Block}
use Rattle.attention.proofs.OrderLaws.{added_same, rows_length}
use Rattle.attention.proofs.ScoringLaws.{f32_bytes, row_number}

module _ (b : Block) (weights : List Float) where
  -- row p's terms added
  abbrev pub row_added : ℕ → List Float → List Float
  row_added p = added (block_term (format_number b.format) weights (buffers b.cells.now b.scales.now) b.numbers p)

  -- the terms of k rows from row p on, which are lent as a part, after those of the rows before
  pub rows_after : (p k : ℕ) (x : List Float) {f : Format} {n : ℕ} {c w : List ℕ} {u : List Float} (y : List Float) {z : List Float} → p + k ≤ length weights
      → f ≡ b.format → n ≡ b.numbers → c ≡ part (p * b.row_cells) (k * b.row_cells) b.cells.now → w ≡ part (p * b.row_scales) (k * b.row_scales) b.scales.now
      → u ≡ part p k weights → y ≡ turns p row_added x → z ≡ rows_added (format_number f) u (buffers c w) n y → z ≡ turns (p + k) row_added x
  rows_after p k x y h ef en ec ew eu o g =
      rw (turns-add p k row_added x, ← o)
      (g
      ∙ rw (ef, en, ec, ew, eu, b.fits.1, b.fits.2, part_length p k weights h)
      (turns_same k _ _ y (λ i v. rw (get_or-take, get_or-drop, part_chunk, part_chunk))))

-- place d with the terms of four rows
abbrev pub with_four : List Float → List ℕ → List Float → ℕ → Float
with_four weights cells l d =
    turns 4 (λ i sum. add binary32 sum (f32_term (get_or weights i nan) cells (i * length l + d))) (get_or l d nan)

-- the terms of four F32 rows are those of a block of four
pub four_rows : (weights : List Float) (cells scales : List ℕ) (l : List Float)
    → turns 4 (λ i. added (λ d. f32_term (get_or weights i nan) cells (i * length l + d))) l
    ≡ turns 4 (λ p. added (block_term 0 weights (buffers cells scales) (length l) p)) l
unfolding row_term scorings
four_rows weights cells scales l =
    let n = length l in
    let term : ℕ → ℕ → Float = λ i d. f32_term (get_or weights i nan) cells (i * n + d) in
    turns_same 4 _ _ l
    (λ i b. added_same _ _ _ (λ d h. let v : d < n = omega (arith, rows_length i term l) in rw (f32_bytes n, row_number n cells i d v)))
