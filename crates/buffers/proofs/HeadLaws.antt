-- A loop over the rows of one head, each lent with its numbers: where they lie, the turn and the end.
-- Each holds by the laws of chunks, since a row that is written has the length of what was lent.
use mathlib.Core.Path.{◌≡◌, refl, ◌∙◌}
use mathlib.Core.Bool.{Bool}
use mathlib.Core.List.{List, ◌++◌}
use Prim.Native.Nat.{ℕ, ◌+◌, ◌-◌, ◌*◌, ◌≤◌, ◌<◌}
use native.Mathlib.Omega.{arith}
use lib.ListN.{length, take, drop}
use Rattle.lists.specs.Chunks.{part, joined}
use Rattle.lists.proofs.Part.{room, lent_count, part_length}
use Rattle.lists.proofs.Loop.{Chunked, Passed, chunk_turn, over, over_done}
use Rattle.replies.specs.Tried.{tells}
use Rattle.shapes.specs.declared.Shape.{Shape}
use Rattle.shapes.specs.Buffers.{buffers}
use Rattle.shapes.specs.Shape.{head_size_of, cell_bytes_of, scale_words_of, width}
use Rattle.rows.specs.Row.{row_cells, row_scales}
use Rattle.encode.specs.Encode.{put_row_of}
use Rattle.encode.proofs.EncodeLaws.{put_left}
use Rattle.rows.proofs.FitLaws.{RowFits, shape_fits}
use Rattle.buffers.specs.Calls.{head_numbers}
use Rattle.buffers.specs.Fits.{HeadRows}
use Rattle.buffers.proofs.RunLaws.{numbers_in, run_lent, cell_rows, scale_rows}

-- n rows of head h, of c cells and w scale words each, in the shape's format
pub record RowsPassed (s : Shape) (format h n c w : ℕ) (numbers cells scales : List ℕ) : Type 0 where
  pub named : format ≡ s.format
  pub fits : HeadRows s h n (length numbers) (length cells) (length scales)
  pub cell_row : c ≡ cell_bytes_of format (head_size_of s)
  pub scale-row : w ≡ scale_words_of format (head_size_of s)

pub rows_passed : {s : Shape} {format h n c w : ℕ} {numbers cells scales : List ℕ} → format ≡ s.format
    → HeadRows s h n (length numbers) (length cells) (length scales) → c ≡ cell_bytes_of format (head_size_of s)
    → w ≡ scale_words_of format (head_size_of s) → RowsPassed s format h n c w numbers cells scales
rows_passed e f c w = record { named = e; fits = f; cell_row = c; scale-row = w }

-- the numbers and the row of position i lie in what is lent
pub record RowIn (s : Shape) (h c w i numbers cells scales : ℕ) : Type 0 where
  pub run_in : i * width s + h * head_size_of s + head_size_of s ≤ numbers
  pub cells_in : i * c + c ≤ cells
  pub words_in : i * w + w ≤ scales

pub rows_there : {s : Shape} {format h n c w i numbers cells scales : ℕ} → format ≡ s.format → HeadRows s h n numbers cells scales
    → c ≡ cell_bytes_of format (head_size_of s) → w ≡ scale_words_of format (head_size_of s) → i < n → RowIn s h c w i numbers cells scales
rows_there {s} e f q o v =
    record {
      run_in = rw f.numbers_size (numbers_in s v f.head);
      cells_in = rw (f.cell_size, q, e) (room _ v);
      words_in = rw (f.scale_size, o, e) (room _ v);
    }

module _ {s : Shape} {format h n c w : ℕ} {numbers cells scales : List ℕ} (k : RowsPassed s format h n c w numbers cells scales) where
  abbrev cells_of : ℕ → List ℕ
  cells_of i = row_cells format (head_numbers s numbers h i)

  abbrev scales_in : ℕ → List ℕ
  scales_in i = row_scales format (head_numbers s numbers h i)

  in_cells : Chunked c n (λ i x. cells_of i) cells
  in_cells =
      let f = k.fits in
      rw (k.cell_row, k.named) (over (cell_rows s n f.in-limits numbers f.numbers_size h f.head) f.cell_size)

  in_scales : Chunked w n (λ i x. scales_in i) scales
  in_scales =
      let f = k.fits in
      rw (k.scale-row, k.named) (over (scale_rows s n f.in-limits numbers f.numbers_size h f.head) f.scale_size)

  pub row_there : {i : ℕ} → i < n → RowIn s h c w i (length numbers) (length cells) (length scales)
  row_there v = rows_there k.named k.fits k.cell_row k.scale-row v

  row_fits : {d x y : ℕ} → d ≡ head_size_of s → x ≡ c → y ≡ w → RowFits format d x y
  row_fits d x y = let q = k.cell_row in let o = k.scale-row in rw k.named (shape_fits s k.fits.in-limits d (x ∙ rw k.named at q) (y ∙ rw k.named at o))

  -- the turn: the row came back as y and z
  pub row_turn : {i : ℕ} {done : Bool} {out out' y z : List ℕ} → i < n
      → Passed c n (λ i x. cells_of i) cells i out → Passed w n (λ i x. scales_in i) scales i out'
      → let from = i * width s + h * head_size_of s in
      tells done (buffers y z)
      ≡ put_row_of format (part from (from + head_size_of s - from) numbers) (buffers (part (i * c) (i * c + c - i * c) out) (part (i * w) (i * w + w - i * w) out'))
      → Passed c n (λ i x. cells_of i) cells (i + 1) (take (i * c) out ++ (y ++ drop (i * c + c - i * c) (drop (i * c) out)))
      × Passed w n (λ i x. scales_in i) scales (i + 1) (take (i * w) out' ++ (z ++ drop (i * w + w - i * w) (drop (i * w) out')))
  row_turn {i} {out = out} {out' = out'} v o o' q =
      let r = row_there v in
      let from = i * width s + h * head_size_of s in
      let run = run_lent s numbers h i refl in
      let fits = row_fits
      (part_length from (from + head_size_of s - from) numbers (omega arith) ∙ lent_count from refl refl)
      (part_length (i * c) (i * c + c - i * c) out (omega arith) ∙ lent_count (i * c) refl refl)
      (part_length (i * w) (i * w + w - i * w) out' (omega arith) ∙ lent_count (i * w) refl refl) in
      let y = put_left _ _ _ fits q in
      (chunk_turn in_cells o v refl (y.0 ∙ rw run), chunk_turn in_scales o' v refl (y.1 ∙ rw run))

  -- the end: every row is written
  pub rows_done : {i : ℕ} {out out' : List ℕ} → n ≤ i → Passed c n (λ i x. cells_of i) cells i out → Passed w n (λ i x. scales_in i) scales i out'
      → (out ≡ joined n cells_of) × (out' ≡ joined n scales_in)
  rows_done v o o' = (over_done in_cells o v, over_done in_scales o' v)
