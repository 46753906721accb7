-- Whether lengths are those of rows.
-- The paper's Rows and Limits, under Shape and room.
use Rattle.std.specs.Prelude.{ℕ, ◌*◌, Bool, ◌&&◌, eqb, leb, length}
use Rattle.shapes.specs.Buffers.{Buffers}
use Rattle.shapes.specs.Format.{known, whole_groups_of}
use Rattle.shapes.specs.Shape.{cell_bytes_of, scale_words_of}

-- m rows of a format, no more than a store has, each of d numbers, no more than a head has, in whole groups: their B cells and S scale words
unfoldable pub rows_fit_of : ℕ → ℕ → ℕ → ℕ → ℕ → Bool
rows_fit_of format d m cells scales =
    (leb d 256 && leb m 4096)
    && (known format
    && (whole_groups_of format d
    && (eqb cells (m * cell_bytes_of format d)
    && eqb scales (m * scale_words_of format d))))

-- one row
abbrev pub row_fits_of : ℕ → ℕ → Buffers → Bool
row_fits_of format d b = rows_fit_of format d 1 (length b.cells) (length b.scales)
