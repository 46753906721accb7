-- Four rows that lie one after the other: their lengths and their dots in each format; and the scores of some rows of a block.
-- Each holds since a row has its format's sizes, and since the sums of four rows grow each on its own.
use mathlib.Core.Path.{◌≡◌, refl, ◌∙◌}
use mathlib.Core.List.{List, map}
use Prim.Native.Nat.{ℕ, ◌+◌, ◌*◌, ◌/◌, ◌%◌, ◌≤◌}
use native.Mathlib.Omega.{arith}
use borrow.Author.Tests.{eqb-true}
use lib.ListN.{length, get_or, replicate}
use lib.Ieee.{Float, nan, binary32, mul}
use Rattle.lists.specs.Chunks.{tab, turns, part}
use Rattle.lists.proofs.Tab.{tab_same}
use Rattle.numbers.specs.Word.{float, word}
use Rattle.shapes.specs.declared.Format.{Format}
use Rattle.shapes.specs.Format.{layouts, format_number, whole_groups_of}
use Rattle.shapes.specs.Shape.{cell_bytes_of, scale_words_of}
use Rattle.shapes.specs.Buffers.{buffers}
use Rattle.rows.proofs.FitLaws.{RowsFit, fits_facts}
use Rattle.rows.specs.Row.{f32_at}
use Rattle.attention.specs.Order.{scorings, f32_dot, int4_dot, row_dot, scores_of, added}
use Rattle.attention.specs.Block.{cells_of, scales_in, scores_of_block}
use Rattle.attention.specs.declared.block.Block.{Block}
use Rattle.attention.specs.Fits.{ScoredRows, IsInt4}
use Rattle.attention.proofs.OrderLaws.{rows_columns, summed_same, map-tab}
use Rattle.attention.proofs.ScoringLaws.{f32_bytes, row_number}
use Rattle.attention.proofs.PartLaws.{score_at, part_scores}

-- number d of row i, times the query's
abbrev pub number_term : List Float → List ℕ → ℕ → ℕ → Float
number_term query cells d i = mul binary32 (get_or query d nan) (float (f32_at cells (i * length query + d)))

pub four_f32_dots : (query : List Float) (cells : List ℕ) {sums : List Float}
    → sums ≡ turns (length query) (λ d. added (number_term query cells d)) (replicate 4 (float 0))
    → sums ≡ tab 4 (λ i. f32_dot query (part (i * (length query * 4)) (length query * 4) cells))
unfolding f32_dot
four_f32_dots query cells e =
    e
    ∙ rows_columns 4 (length query) (number_term query cells)
    ∙ tab_same 4 _ _ (λ i b. summed_same (length query) _ _ (λ d h. rw (row_number (length query) cells i d h)))

-- the lengths of four rows in INT4
pub four_of_int4 : (d cells scales : ℕ) → ScoredRows 3 d 4 cells scales → IsInt4 (4 * d) cells scales × (d % 32 ≡ 0) × (d ≤ 256)
unfolding cell_bytes_of scale_words_of whole_groups_of layouts
four_of_int4 d cells scales h =
    let k : RowsFit 3 d 4 cells scales = fits_facts h.1 in
    let w : d % 32 ≡ 0 = eqb-true (d % 32) 0 k.whole in
    (omega arith, w, k.small)

int4_bytes : (d : ℕ) → d % 32 ≡ 0 → cell_bytes_of 3 d ≡ d / 32 * 16
unfolding cell_bytes_of layouts
int4_bytes d h = omega arith

int4_words : (d : ℕ) → scale_words_of 3 d ≡ d / 32
unfolding scale_words_of layouts
int4_words d = refl

-- and their dots
module _ (query : List Float) (cells scales : List ℕ) where
  abbrev pub Dots : ℕ → List Float → Type 0
  Dots format dots =
      let b = buffers cells scales in
      let d = length query in
      dots ≡ tab 4 (λ i. row_dot format query (cells_of format d b i) (scales_in format d b i))

  pub dots_f32 : {dots : List Float}
      → dots ≡ tab 4 (λ i. f32_dot query (part (i * (length query * 4)) (length query * 4) cells)) → Dots 0 dots
  unfolding row_dot scorings
  dots_f32 o = rw (f32_bytes (length query)) o

  pub dots_int4 : {dots : List Float} → length query % 32 ≡ 0
      → dots
      ≡ tab 4
      (λ i. int4_dot query (part (i * (length query / 32 * 16)) (length query / 32 * 16) cells) (part (i * (length query / 32)) (length query / 32) scales))
      → Dots 3 dots
  unfolding row_dot scorings
  dots_int4 h o = rw (int4_bytes (length query) h, int4_words (length query)) o

  -- the words of the dots, each times the given scale, are the scores
  pub four_scores : (format : ℕ) (x : Float) (dots : List Float) {out : List ℕ} → Dots format dots
      → out ≡ map (λ dot. word (mul binary32 dot x)) dots → out ≡ scores_of_block format query x (buffers cells scales) 4
  unfolding scores_of_block scores_of
  four_scores format x dots o e = e ∙ rw o (map-tab (λ dot. word (mul binary32 dot x)) 4 _)

-- the scores of n rows of a block from row p on
pub scores_from : (b : Block) (query : List Float) (x : Float) (p n : ℕ) {k : ℕ} {f : Format} {c w : List ℕ} → b.numbers ≡ length query → k ≡ n → f ≡ b.format
    → c ≡ part (p * b.row_cells) (n * b.row_cells) b.cells.now → w ≡ part (p * b.row_scales) (n * b.row_scales) b.scales.now
    → scores_of_block (format_number f) query x (buffers c w) k ≡ tab n (λ i. score_at (format_number b.format) query x b.cells.now b.scales.now (p + i))
scores_from b query x p n q o e c w =
    rw e (part_scores (format_number b.format) query x b.cells.now b.scales.now p n (rw q at b.fits.1) (rw q at b.fits.2) o c w)
