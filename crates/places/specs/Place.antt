-- Where rows lie in a buffer that has b elements for each: the paper's Buffers, under Shape and room.
-- Said once, for cells with b = B and for scale words with b = S.
use Rattle.std.specs.Prelude.{ℕ, ◌+◌, ◌*◌, List}
use Rattle.lists.specs.Chunks.{part}
use Rattle.shapes.specs.Buffers.{Buffers}
use Rattle.shapes.specs.Shape.{bytes_of, words_of}
use Rattle.shapes.specs.declared.Shape.{Shape}

-- the block of layer l, a side and head h, counted from the first
abbrev pub block_at : Shape → ℕ → ℕ → ℕ → ℕ
block_at s l side h = (2 * l + side) * s.heads + h

-- the row of position p of block i, counted from the first, and its first element
abbrev pub row_of : Shape → ℕ → ℕ → ℕ
row_of s i p = i * s.capacity + p

abbrev pub place : ℕ → Shape → ℕ → ℕ → ℕ → ℕ → ℕ
place b s l side h p = row_of s (block_at s l side h) p * b

-- the cells and the scale words of layer l, a side, head h, position p
abbrev pub cells_at_of : Shape → ℕ → ℕ → ℕ → ℕ → Buffers → List ℕ
cells_at_of s l side h p b = part (place (bytes_of s) s l side h p) (bytes_of s) b.cells

abbrev pub scales_at : Shape → ℕ → ℕ → ℕ → ℕ → Buffers → List ℕ
scales_at s l side h p b = part (place (words_of s) s l side h p) (words_of s) b.scales
