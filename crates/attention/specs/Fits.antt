-- What the functions inside ask of their arguments: lengths that fit. The calls test for it.
use Rattle.std.specs.Prelude.{◌≡◌, true, ℕ, ◌*◌}
use Rattle.shapes.specs.Shape.{cell_bytes_of, scale_words_of}
use Rattle.rows.specs.Fit.{rows_fit_of}
use Rattle.attention.specs.Order.{has_scores_of}

-- m rows of d numbers, in a format that has scores
abbrev pub ScoredRows : ℕ → ℕ → ℕ → ℕ → ℕ → Type 0
ScoredRows format d m cells scales = (has_scores_of format ≡ true) × (rows_fit_of format d m cells scales ≡ true)

-- such rows, where each has c cells and w scale words
abbrev pub SizedRows : ℕ → ℕ → ℕ → ℕ → ℕ → ℕ → ℕ → Type 0
SizedRows format d m c w cells scales = ScoredRows format d m cells scales × (c ≡ cell_bytes_of format d) × (w ≡ scale_words_of format d)

-- a row of d numbers in F32, and in INT4
abbrev pub IsF32 : ℕ → ℕ → Type 0
IsF32 d cells = cells ≡ d * 4

abbrev pub IsInt4 : ℕ → ℕ → ℕ → Type 0
IsInt4 d cells scales = (d ≡ scales * 32) × (cells ≡ scales * 16)
