-- A text put into a buffer at a place: what the functions say that a line is made with.
use Rattle.std.specs.Prelude.{ℕ, ◌+◌, ◌≡◌, List, ◌++◌, length, take, drop}

-- the buffer afterwards
unfoldable pub over : ℕ → List ℕ → List ℕ → List ℕ
over at text out = take at out ++ (text ++ drop (at + length text) out)

-- the place after the text, and the buffer
pub record Placed (at : ℕ) (text before : List ℕ) (end : ℕ) (after : List ℕ) : Type 0 where
  pub place : end ≡ at + length text
  pub out : after ≡ over at text before
