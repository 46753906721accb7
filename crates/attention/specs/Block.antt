-- The first m positions of one head's block, row after row: their scores and their sums.
-- The paper's section Order of float operations. A call answers whether it was done.
use Rattle.std.specs.Prelude.{ℕ, ◌*◌, Bool, ◌&&◌, List, length, get_or, Float}
use Rattle.std.specs.Float.{nan}
use Rattle.lists.specs.Chunks.{turns, part}
use Rattle.shapes.specs.Shape.{cell_bytes_of, scale_words_of}
use Rattle.shapes.specs.Buffers.{Buffers}
use Rattle.replies.specs.Tried.{Tried, tried}
use Rattle.rows.specs.Fit.{rows_fit_of}
use Rattle.attention.specs.Order.{has_scores_of, row_dot, row_term, added, scores_of, sums_of}

-- the cells and the scale words of position p, where a row has d numbers
abbrev pub cells_of : ℕ → ℕ → Buffers → ℕ → List ℕ
cells_of format d b p = part (p * cell_bytes_of format d) (cell_bytes_of format d) b.cells

abbrev pub scales_in : ℕ → ℕ → Buffers → ℕ → List ℕ
scales_in format d b p = part (p * scale_words_of format d) (scale_words_of format d) b.scales

-- m scores under a query of d numbers, and d sums under m weights
unfoldable pub scores_of_block : ℕ → List Float → Float → Buffers → ℕ → List ℕ
scores_of_block format query x b m =
    let d = length query in
    scores_of m (λ p. row_dot format query (cells_of format d b p) (scales_in format d b p)) x

abbrev pub block_term : ℕ → List Float → Buffers → ℕ → ℕ → ℕ → Float
block_term format weights b d p = row_term format (get_or weights p nan) (cells_of format d b p) (scales_in format d b p)

-- the terms of each position added to what is there, in their order
abbrev pub rows_added : ℕ → List Float → Buffers → ℕ → List Float → List Float
rows_added format weights b d = turns (length weights) (λ p. added (block_term format weights b d p))

unfoldable pub sums_of_block : ℕ → List Float → Buffers → ℕ → List ℕ
sums_of_block format weights b d = sums_of d (length weights) (block_term format weights b d)

-- whether m rows of d numbers have scores and sums: a format that has them, and lengths that fit
abbrev pub block_fits_of : ℕ → ℕ → ℕ → ℕ → ℕ → Bool
block_fits_of format d m cells scales = has_scores_of format && rows_fit_of format d m cells scales

-- each call
unfoldable pub block_scores_of : ℕ → List Float → Float → Buffers → List ℕ → Tried (List ℕ)
block_scores_of format query x b out =
    tried (block_fits_of format (length query) (length out) (length b.cells) (length b.scales)) (scores_of_block format query x b (length out)) out

unfoldable pub block_sums_of : ℕ → List Float → Buffers → List ℕ → Tried (List ℕ)
block_sums_of format weights b out =
    tried (block_fits_of format (length out) (length weights) (length b.cells) (length b.scales)) (sums_of_block format weights b (length out)) out
