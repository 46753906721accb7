-- A shape, its limits and the room that it needs: the paper's section Shape and room, and replies 1 and 2 of its section Replies.
use Rattle.std.specs.Prelude.{ℕ, ◌*◌, ◌/◌, Bool, cond, not, ◌&&◌, List, [], ◌∷◌, eqb, leb}
use Rattle.replies.specs.Outcome.{Case, ◌when◌}
use Rattle.shapes.specs.declared.Need.{Need}
use Rattle.shapes.specs.declared.Shape.{Shape}
use Rattle.shapes.specs.Format.{known, whole_groups_of, layout_of}

-- D: the numbers of a head
abbrev pub head_size_of : Shape → ℕ
head_size_of s = s.head_size

-- B: the cell bytes of one position and head
unfoldable pub cell_bytes_of : ℕ → ℕ → ℕ
cell_bytes_of format d = (layout_of format).bytes d

-- S: the scale words of one position and head
unfoldable pub scale_words_of : ℕ → ℕ → ℕ
scale_words_of format d = (layout_of format).words d

-- B and S of a shape, and the numbers of one position
abbrev pub bytes_of : Shape → ℕ
bytes_of s = cell_bytes_of s.format (head_size_of s)

abbrev pub words_of : Shape → ℕ
words_of s = scale_words_of s.format (head_size_of s)

abbrev pub width : Shape → ℕ
width s = s.heads * head_size_of s

-- the positions that so many numbers are
abbrev pub positions : Shape → ℕ → ℕ
positions s numbers = numbers / width s

-- all elements of a buffer: b for each position, head, side and layer
unfoldable pub total : ℕ → Shape → ℕ
total b s = 2 * s.layers * s.heads * s.capacity * b

abbrev pub cell_total : Shape → ℕ
cell_total s = total (bytes_of s) s

abbrev pub scale_total : Shape → ℕ
scale_total s = total (words_of s) s

-- 1 to most
abbrev pub up_to : ℕ → ℕ → Bool
up_to most x = leb 1 x && leb x most

-- the limits of each field; a head's numbers are whole groups
unfoldable pub limits : Shape → Bool
limits s =
    known s.format
    && (up_to 128 s.layers
    && (up_to 64 s.heads
    && (up_to 256 (head_size_of s)
    && (up_to 4096 s.capacity
    && whole_groups_of s.format (head_size_of s)))))

-- those, and the most cells
unfoldable pub within : Shape → Bool
within s = limits s && leb (cell_total s) 1073741824

-- the lengths of the buffers that a shape needs; none outside the limits
unfoldable pub need_of : Shape → Need
need_of s = record { cells = cond (within s) (cell_total s) 0; scales = cond (within s) (scale_total s) 0 }

-- the buffers have exactly the lengths that the shape needs
unfoldable pub exact : Shape → ℕ → ℕ → Bool
exact s cells scales = eqb cells (cell_total s) && eqb scales (scale_total s)

-- the first two refusals
abbrev pub room_refusals : Shape → ℕ → ℕ → List Case
room_refusals s cells scales = (1 when not (within s)) ∷ (2 when not (exact s cells scales)) ∷ []
