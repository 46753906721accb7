-- The surviving rows of a layer, from the accepted calls alone: the paper's Undo is real, under Demands.
use Rattle.std.specs.Prelude.{ℕ, ◌*◌, cond, List, [], ◌∷◌, ◌++◌, eqb, length, get_or, take}
use Rattle.lists.specs.Chunks.{tab, joined, part}
use Rattle.shapes.specs.declared.Shape.{Shape}
use Rattle.shapes.specs.Shape.{width}
use Rattle.shapes.specs.Shape.{positions}
use Rattle.undo.specs.Sequence.{Call, append, truncate, advance, reads}

-- one position of a layer: the keys and the values of all its heads, as they were appended
pub record Position : Type 0 where
  pub keys : List ℕ
  pub values : List ℕ

abbrev pub position : List ℕ → List ℕ → Position
position k v = record { keys = k; values = v }

-- a layer's rows, position by position
abbrev pub Rows : Type 0
Rows = List Position

abbrev pub no_rows : Rows
no_rows = []

-- appended keys and values, cut into their positions
abbrev pub rows_of : Shape → List ℕ → List ℕ → Rows
rows_of s keys values =
    let w = width s in
    tab (positions s (length keys)) (λ p. position (part (p * w) w keys) (part (p * w) w values))

-- position p, and the keys and the values of all positions, joined again
abbrev pub position_at : Rows → ℕ → Position
position_at r p = get_or r p (position [] [])

abbrev pub keys_of : Rows → List ℕ
keys_of r = joined (length r) (λ p. (position_at r p).keys)

abbrev pub values_of : Rows → List ℕ
values_of r = joined (length r) (λ p. (position_at r p).values)

-- an append to layer l adds its rows at the end, a truncation of layer l to n keeps the first n; every other call keeps all
abbrev pub rows_after : Shape → ℕ → Rows → Call → Rows
rows_after s l r (append m keys values) = cond (eqb m l) (r ++ rows_of s keys values) r
rows_after s l r (truncate m n) = cond (eqb m l) (take n r) r
rows_after s l r (advance count) = r
rows_after s l r (reads reply) = r

-- the rows of layer l after calls that were all accepted, from rows r, and from none
unfoldable pub rows_after_all : Shape → ℕ → Rows → List Call → Rows
rows_after_all s l r [] = r
rows_after_all s l r (c ∷ calls) = rows_after_all s l (rows_after s l r c) calls

abbrev pub survivors : Shape → List Call → ℕ → Rows
survivors s calls l = rows_after_all s l no_rows calls

-- each layer's rows appended in one call
abbrev pub one_append_each : Shape → (ℕ → Rows) → List Call
one_append_each s of = tab s.layers (λ l. append l (keys_of (of l)) (values_of (of l)))
