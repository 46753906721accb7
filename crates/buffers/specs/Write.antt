-- Rows written to some positions of a layer, by their places in a buffer that has b elements a row: the paper's Buffers, under Shape and room.
-- Said once, for cells with b = B and for scale words with b = S.
use Rattle.std.specs.Prelude.{ℕ, ◌*◌, List, replicate}
use Rattle.lists.specs.Chunks.{joined, at, turns}
use Rattle.shapes.specs.declared.Shape.{Shape}
use Rattle.places.specs.Place.{place}

-- positions p to p + n - 1 of a head's block become n rows
unfoldable pub put : ℕ → Shape → ℕ → ℕ → ℕ → ℕ → ℕ → (ℕ → List ℕ) → List ℕ → List ℕ
put b s l side h p n rows = at (place b s l side h p) (n * b) (λ _. joined n rows)

-- the same in each head of a side, and in both sides of layer l; rows goes by side, head and position
unfoldable pub written_side : ℕ → Shape → ℕ → ℕ → ℕ → ℕ → (ℕ → ℕ → List ℕ) → List ℕ → List ℕ
written_side b s l side p n rows = turns s.heads (λ h. put b s l side h p n (rows h))

unfoldable pub written : ℕ → Shape → ℕ → ℕ → ℕ → (ℕ → ℕ → ℕ → List ℕ) → List ℕ → List ℕ
written b s l p n rows = turns 2 (λ side. written_side b s l side p n (rows side))

-- rows of zeros
abbrev pub zeros : ℕ → ℕ → ℕ → ℕ → List ℕ
zeros b side h i = replicate b 0
