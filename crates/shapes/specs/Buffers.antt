-- The two lent buffers, cells and scale words: the paper's Buffers, under Shape and room.
use Rattle.std.specs.Prelude.{ℕ, List}

-- both buffers, or a part of each
pub record Buffers : Type 0 where
  pub cells : List ℕ
  pub scales : List ℕ

abbrev pub buffers : List ℕ → List ℕ → Buffers
buffers c s = record { cells = c; scales = s }
