-- A row read: the paper's Rows, under Shape and room.
-- The call answers whether it was done, which is no reply of the paper.
use Rattle.std.specs.Prelude.{ℕ, List, length}
use Rattle.replies.specs.Tried.{Tried, tried}
use Rattle.shapes.specs.Buffers.{Buffers}
use Rattle.rows.specs.Row.{row_numbers}
use Rattle.rows.specs.Fit.{row_fits_of}

unfoldable pub get_row_of : ℕ → Buffers → List ℕ → Tried (List ℕ)
get_row_of format b out = tried (row_fits_of format (length out) b) (row_numbers format (length out) b.cells b.scales) out
