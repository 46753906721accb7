-- A row written: the paper's Rows, under Shape and room.
-- The call answers whether it was done, which is no reply of the paper.
use Rattle.std.specs.Prelude.{ℕ, List, length}
use Rattle.replies.specs.Tried.{Tried, tried}
use Rattle.shapes.specs.Buffers.{Buffers, buffers}
use Rattle.rows.specs.Row.{row_cells, row_scales}
use Rattle.rows.specs.Fit.{row_fits_of}

unfoldable pub put_row_of : ℕ → List ℕ → Buffers → Tried Buffers
put_row_of format run b = tried (row_fits_of format (length run) b) (buffers (row_cells format run) (row_scales format run)) b
