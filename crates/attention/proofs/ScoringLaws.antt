-- Formats that have scores and sums: the lengths of a row in each, where a number lies, and that there is no other.
-- Each holds by the lines of the table, or since rows lie one after the other.
use mathlib.Core.Path.{◌≡◌, refl}
use mathlib.Core.Bool.{true, false}
use mathlib.Core.List.{List}
use Prim.Native.Nat.{ℕ, zero, suc, ◌+◌, ◌*◌, ◌≤◌, ◌<◌}
use native.Mathlib.Nat.{add-mul, mul_assoc}
use native.Mathlib.Omega.{arith}
use borrow.Author.Tests.{ltb-false}
use lib.ListN.{length, get_or-eq_default}
use Rattle.lists.specs.Chunks.{part}
use Rattle.lists.proofs.Part.{part-part, room}
use Rattle.shapes.specs.declared.Format.{Format}
use Rattle.shapes.specs.declared.Format.TheVariants.{F32, Bf16, Int8, Int4}
use Rattle.shapes.specs.Format.{layouts, known, format_number}
use Rattle.shapes.specs.Shape.{cell_bytes_of}
use Rattle.rows.specs.Row.{f32_at}
use Rattle.rows.proofs.FitLaws.{RowsFit, fits_facts, f32_fits, int4_fits}
use Rattle.attention.specs.Order.{scorings, scoring_of, no_scoring, has_scores_of}
use Rattle.attention.specs.Fits.{ScoredRows, IsF32, IsInt4}

-- a row in F32, and in INT4
pub f32_row : (d cells scales : ℕ) → ScoredRows 0 d 1 cells scales → IsF32 d cells
f32_row d cells scales h = (f32_fits (fits_facts h.1)).0

pub int4_row : (d cells scales : ℕ) → ScoredRows 3 d 1 cells scales → IsInt4 d cells scales
int4_row d cells scales h = int4_fits (fits_facts h.1)

-- four rows in F32
pub four_of_f32 : (d cells scales : ℕ) → ScoredRows 0 d 4 cells scales → IsF32 (4 * d) cells × (d ≤ 256)
unfolding cell_bytes_of layouts
four_of_f32 d cells scales h = let k : RowsFit 0 d 4 cells scales = fits_facts h.1 in (omega arith, k.small)

-- rows of n numbers in F32: their cells, and number d of row i
pub f32_bytes : (n : ℕ) → cell_bytes_of 0 n ≡ n * 4
unfolding cell_bytes_of layouts
f32_bytes n = omega arith

pub row_number : (n : ℕ) (cells : List ℕ) (i d : ℕ) → d < n → f32_at cells (i * n + d) ≡ f32_at (part (i * (n * 4)) (n * 4) cells) d
row_number n cells i d h = let b = room 4 h in rw (part-part, add-mul, mul_assoc)

-- a number that the table has not
pub no-scoring : (format : ℕ) → length scorings ≤ format → scoring_of format ≡ no_scoring
no-scoring format h = get_or-eq_default scorings no_scoring h

pub unscored : (format : ℕ) → known format ≡ false → has_scores_of format ≡ false
unfolding known layouts scorings has_scores_of
unscored format h = rw (no-scoring format (ltb-false format (length layouts) h))

-- a format that has scores is one of these two
pub scored_int4 : (format : Format) → has_scores_of (format_number format) ≡ true → (format ≡ F32 → ⊥) → format ≡ Int4
unfolding has_scores_of scorings
scored_int4 F32 h a = absurd (a refl)
scored_int4 Bf16 h a = cc
scored_int4 Int8 h a = cc
scored_int4 Int4 h a = refl

pub scored_other : (format : Format) → has_scores_of (format_number format) ≡ true → (format ≡ F32 → ⊥) → (format ≡ Int4 → ⊥) → ⊥
scored_other format h a b = b (scored_int4 format h a)

-- and so is a number whose format has scores, whatever number it is
pub scored_number : (format : ℕ) → has_scores_of format ≡ true → (format ≡ 0 → ⊥) → format ≡ 3
unfolding has_scores_of scorings
scored_number zero h a = absurd (a refl)
scored_number (suc zero) h a = cc
scored_number (suc (suc zero)) h a = cc
scored_number (suc (suc (suc zero))) h a = refl
scored_number (suc (suc (suc (suc f)))) h a = cc

pub scored_no_other : (format : ℕ) → has_scores_of format ≡ true → (format ≡ 0 → ⊥) → (format ≡ 3 → ⊥) → ⊥
scored_no_other format h a b = b (scored_number format h a)
