-- Two stores with the same rows in each layer have the same cache.
-- It holds since the rows say every length and what stands at every place, and the places make up both buffers.
use mathlib.Core.Path.{◌≡◌, sym, ap, ◌∙◌}
use mathlib.Core.List.{List}
use Prim.Native.Nat.{ℕ, ◌≤◌, ◌<◌}
use native.Mathlib.Omega.{arith}
use native.Mathlib.Decide.{dec_lt}
use lib.ListN.{length}
use borrow.Author.Tests.{le-ltb}
use Rattle.shapes.specs.declared.Shape.{Shape}
use Rattle.shapes.specs.Buffers.{buffers}
use Rattle.shapes.specs.Shape.{bytes_of, words_of, total}
use Rattle.rows.specs.Row.{row_cells, row_scales}
use Rattle.places.proofs.PlaceLaws.{places_same}
use Rattle.store.specs.Record.{length_of}
use Rattle.store.specs.Calls.{Store, store}
use Rattle.store.proofs.LengthLaws.{same_record}
use Rattle.undo.specs.Survivors.{Rows}
use Rattle.undo.specs.Undo.{SameCache}
use Rattle.undo.proofs.RowLaws.{HoldsRows}
use Rattle.undo.proofs.NumberLaws.{encoded}
use Rattle.undo.proofs.StoreLaws.{Renders}

module _ {s : Shape} {t u : Store} {of of' : ℕ → Rows} (x : Renders s t of) (y : Renders s u of')
    (same : (l : ℕ) → l < s.layers → of l ≡ of' l) where
  length_at : (l : ℕ) → Dec (l < s.layers) → length_of t.rec l ≡ length_of u.rec l
  length_at l (yes w) = sym (x.layer l).count ∙ ap length (same l w) ∙ (y.layer l).count
  length_at l (no w) =
      let e = le-ltb l s.layers (omega arith) in
      let a : length_of t.rec l ≤ 0 = rw e at (x.layer l).span in
      let b : length_of u.rec l ≤ 0 = rw e at (y.layer l).span in
      omega arith

  same_length : (l : ℕ) → length_of t.rec l ≡ length_of u.rec l
  same_length l = length_at l (dec_lt l s.layers)

  -- a buffer of either kind
  same_buffer : (enc : List ℕ → List ℕ) (a : ℕ) (buf buf' : List ℕ) → length buf ≡ total a s → length buf' ≡ total a s
      → ((l : ℕ) → HoldsRows a s l (length_of t.rec l) (encoded enc s (of l)) buf)
      → ((l : ℕ) → HoldsRows a s l (length_of u.rec l) (encoded enc s (of' l)) buf') → buf ≡ buf'
  same_buffer enc a buf buf' w w' len len' =
      places_same a s buf buf' w w'
      (λ l side h p k. (len l).row side h p k ∙ rw (same_length l, same l k.layer_in) (sym ((len' l).row side h p k)))

  pub same_rows : SameCache t u
  same_rows =
      let a = same_record 0 x.lengths y.lengths (x.shape_is ∙ sym y.shape_is) (λ l w. same_length l) in
      let c = same_buffer (row_cells s.format) (bytes_of s) _ _ x.sizes.0 y.sizes.0 (λ l. (x.layer l).cells_held) (λ l. (y.layer l).cells_held) in
      let d = same_buffer (row_scales s.format) (words_of s) _ _ x.sizes.1 y.sizes.1 (λ l. (x.layer l).scales_held) (λ l. (y.layer l).scales_held) in
      λ i. store (a i) (buffers (c i) (d i))
