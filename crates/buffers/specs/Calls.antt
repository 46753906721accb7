-- Rows appended to a layer and removed from it, where the caller says how many positions it has: the paper's section Calls.
-- Such a call answers whether its arguments fit, which is no reply of the paper.
use Rattle.std.specs.Prelude.{ℕ, ◌+◌, ◌-◌, ◌*◌, ◌%◌, Bool, cond, ◌&&◌, List, eqb, ltb, leb, length}
use Rattle.lists.specs.Chunks.{part}
use Rattle.replies.specs.Tried.{Tried, tried}
use Rattle.shapes.specs.Buffers.{Buffers, buffers}
use Rattle.shapes.specs.Shape.{head_size_of, bytes_of, words_of, width, positions, within, exact}
use Rattle.shapes.specs.declared.Shape.{Shape}
use Rattle.rows.specs.Row.{row_cells, row_scales}
use Rattle.buffers.specs.Write.{written, zeros}

-- position first, then head: the numbers of head h in position i
abbrev pub head_numbers : Shape → List ℕ → ℕ → ℕ → List ℕ
head_numbers s numbers h i = part (i * width s + h * head_size_of s) (head_size_of s) numbers

-- side 0 is the keys', side 1 the values'
abbrev pub side_of : List ℕ → List ℕ → ℕ → List ℕ
side_of keys values side = cond (eqb side 0) keys values

-- what is written for a side, a head and a position
abbrev pub cell_row_of : Shape → List ℕ → ℕ → ℕ → List ℕ
cell_row_of s numbers h i = row_cells s.format (head_numbers s numbers h i)

abbrev pub scale_row : Shape → List ℕ → ℕ → ℕ → List ℕ
scale_row s numbers h i = row_scales s.format (head_numbers s numbers h i)

-- keys and values appended to layer l, which has `len` positions
unfoldable pub appended : Shape → ℕ → ℕ → List ℕ → List ℕ → Buffers → Buffers
appended s l len keys values b =
    let n = positions s (length keys) in
    buffers
    (written (bytes_of s) s l len n (λ side. cell_row_of s (side_of keys values side)) b.cells)
    (written (words_of s) s l len n (λ side. scale_row s (side_of keys values side)) b.scales)

-- positions t to len - 1 of layer l removed: none where t is not below len
unfoldable pub removed : Shape → ℕ → ℕ → ℕ → Buffers → Buffers
removed s l len t b =
    buffers
    (written (bytes_of s) s l t (len - t) (zeros (bytes_of s)) b.cells)
    (written (words_of s) s l t (len - t) (zeros (words_of s)) b.scales)

-- whether both buffers are a store's of shape s that has layer l, and positions up to `most` are in it
unfoldable pub layer_fits_of : Shape → ℕ → ℕ → Buffers → Bool
layer_fits_of s l most b = within s && (exact s (length b.cells) (length b.scales) && (ltb l s.layers && leb most s.capacity))

-- whether keys and values are whole positions, as many of each
abbrev pub whole_rows : Shape → ℕ → ℕ → Bool
whole_rows s keys values = eqb (keys % width s) 0 && eqb values keys

-- each call
unfoldable pub append_rows_of : Shape → ℕ → ℕ → List ℕ → List ℕ → Buffers → Tried Buffers
append_rows_of s l len keys values b =
    tried
    (layer_fits_of s l (len + positions s (length keys)) b && whole_rows s (length keys) (length values))
    (appended s l len keys values b) b

unfoldable pub remove_rows_of : Shape → ℕ → ℕ → ℕ → Buffers → Tried Buffers
remove_rows_of s l len t b = tried (layer_fits_of s l len b) (removed s l len t b) b
