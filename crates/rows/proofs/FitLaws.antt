-- What rows that fit are known by, in all and in each format.
-- Each holds by the tests that rows pass, one by one.
use mathlib.Core.Path.{◌≡◌}
use mathlib.Core.Bool.{true}
use Prim.Native.Nat.{ℕ, ◌*◌, ◌%◌, ◌≤◌}
use native.Mathlib.Nat.{one-mul, mul-le-mul}
use native.Mathlib.Omega.{arith}
use borrow.Author.Tests.{le-leb, leb-true, eq-eqb, eqb-true}
use Rattle.replies.proofs.Flags.{both}
use Rattle.shapes.specs.declared.Shape.{Shape}
use Rattle.shapes.specs.Format.{layouts, known, whole_groups_of}
use Rattle.shapes.specs.Shape.{head_size_of, cell_bytes_of, scale_words_of, bytes_of, words_of, limits}
use Rattle.shapes.proofs.ShapeLaws.{limits_facts}
use Rattle.rows.specs.Fit.{rows_fit_of}

-- what m rows that fit are known by, both ways
pub record RowsFit (format d m cells scales : ℕ) : Type 0 where
  pub known : known format ≡ true
  pub small : d ≤ 256
  pub few : m ≤ 4096
  pub whole : whole_groups_of format d ≡ true
  pub cell-bytes : cells ≡ m * cell_bytes_of format d
  pub scale-words : scales ≡ m * scale_words_of format d

pub fits_facts : {format d m cells scales : ℕ} → rows_fit_of format d m cells scales ≡ true → RowsFit format d m cells scales
unfolding rows_fit_of
fits_facts h =
    let a = both _ _ h in
    let b = both _ _ a.0 in
    let e = both _ _ a.1 in
    let f = both _ _ e.1 in
    let g = both _ _ f.1 in
    record {
      known = e.0;
      small = leb-true _ 256 b.0;
      few = leb-true _ 4096 b.1;
      whole = f.0;
      cell-bytes = eqb-true _ _ g.0;
      scale-words = eqb-true _ _ g.1;
    }

pub facts_fit : {format d m cells scales : ℕ} → RowsFit format d m cells scales → rows_fit_of format d m cells scales ≡ true
unfolding rows_fit_of
facts_fit h =
    rw (
      le-leb _ 256 h.small,
      le-leb _ 4096 h.few,
      h.known,
      h.whole,
      eq-eqb _ _ h.cell-bytes,
      eq-eqb _ _ h.scale-words,
    )

-- the elements of m rows, where a row has r of them, are few
pub rows_few : {m r b : ℕ} → m ≤ 4096 → b ≤ 1024 → r ≡ b → m * r ≤ 4194304
rows_few h w e = rw e (mul-le-mul h w)

-- one row
abbrev pub RowFits : ℕ → ℕ → ℕ → ℕ → Type 0
RowFits format d cells scales = RowsFit format d 1 cells scales

-- a row of a shape
pub shape_fits : (s : Shape) {d cells scales : ℕ} → limits s ≡ true → d ≡ head_size_of s → cells ≡ bytes_of s → scales ≡ words_of s
    → RowFits s.format d cells scales
shape_fits s h e c w =
    let f = limits_facts s h in
    record {
      known = f.format_in;
      small = rw e f.size_in.1;
      few = omega arith;
      whole = rw e f.whole-groups;
      cell-bytes = rw (e, one-mul) c;
      scale-words = rw (e, one-mul) w;
    }

-- in each format
module _ {d cells scales : ℕ} where
  pub f32_fits : RowFits 0 d cells scales → (cells ≡ d * 4) × (scales ≡ 0)
  unfolding cell_bytes_of scale_words_of whole_groups_of layouts
  f32_fits h = omega arith

  pub bf16_fits : RowFits 1 d cells scales → (cells ≡ d * 2) × (scales ≡ 0)
  unfolding cell_bytes_of scale_words_of whole_groups_of layouts
  bf16_fits h = omega arith

  pub int8_fits : RowFits 2 d cells scales → (cells ≡ d) × (scales ≡ 1)
  unfolding cell_bytes_of scale_words_of whole_groups_of layouts
  int8_fits h = omega arith

  pub int4_fits : RowFits 3 d cells scales → (d ≡ scales * 32) × (cells ≡ scales * 16)
  unfolding cell_bytes_of scale_words_of whole_groups_of layouts
  int4_fits h = omega (arith, eqb-true (d % 32) 0 h.whole)
