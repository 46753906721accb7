-- What the functions inside ask of their arguments, which the calls test for: the paper's Buffers, under Shape and room.
-- Positions of a layer, whole buffers, and the rows of one head.
use Rattle.std.specs.Prelude.{◌≡◌, true, ℕ, ◌+◌, ◌*◌, ◌≤◌, ◌<◌}
use Rattle.shapes.specs.Shape.{bytes_of, words_of, width, cell_total, scale_total, limits}
use Rattle.shapes.specs.declared.Shape.{Shape}

-- positions p to p + n - 1 of layer l
pub record RunInside (s : Shape) (l p n : ℕ) : Type 0 where
  pub in-limits : limits s ≡ true
  pub layer_in : l < s.layers
  pub span : p + n ≤ s.capacity

-- whole buffers
pub record IsRoom (s : Shape) (cells scales : ℕ) : Type 0 where
  pub cell_size : cells ≡ cell_total s
  pub scale_size : scales ≡ scale_total s

-- head h of n positions: the numbers of all heads, and the rows of this one
pub record HeadRows (s : Shape) (h n numbers cells scales : ℕ) : Type 0 where
  pub in-limits : limits s ≡ true
  pub head : h < s.heads
  pub span : n ≤ s.capacity
  pub numbers_size : numbers ≡ n * width s
  pub cell_size : cells ≡ n * bytes_of s
  pub scale_size : scales ≡ n * words_of s
