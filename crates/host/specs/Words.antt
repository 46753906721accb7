-- The record as the host has it: 134 words, the shape, the sequence number, then the 128 lengths.
use Rattle.std.specs.Prelude.{ℕ, not, List, [], ◌∷◌, get_or, drop}
use Rattle.replies.specs.Outcome.{◌when◌, Outcome, outcome}
use Rattle.shapes.specs.Shape.{head_size_of, cell_total, scale_total, within}
use Rattle.shapes.specs.declared.Need.{Need}
use Rattle.shapes.specs.declared.Shape.{Shape}
use Rattle.shapes.specs.Buffers.{buffers}
use Rattle.store.specs.Record.{seq_len_of}
use Rattle.store.specs.Calls.{Store, store}
use Rattle.store.specs.declared.Record.{Record}

abbrev pub shape_of : ℕ → ℕ → ℕ → ℕ → ℕ → Shape
shape_of f l h d c = record { format = f; layers = l; heads = h; head_size = d; capacity = c }

abbrev pub record_from : List ℕ → Record
record_from w =
    record {
      shape = shape_of (get_or w 0 0) (get_or w 1 0) (get_or w 2 0) (get_or w 3 0) (get_or w 4 0);
      lens = drop 6 w;
      seq_len = get_or w 5 0;
    }

abbrev pub record_words : Record → List ℕ
record_words r =
    r.shape.format ∷ r.shape.layers ∷ r.shape.heads ∷ head_size_of r.shape ∷ r.shape.capacity ∷ seq_len_of r ∷ r.lens

-- a reply's number beside the words, the cells and the scale words that are left
abbrev pub seen : ℕ → List ℕ → List ℕ → List ℕ → Outcome Store
seen reply words cells scales = record { reply = reply; result = store (record_from words) (buffers cells scales) }

abbrev pub need : ℕ → ℕ → Need
need cells scales = record { cells = cells; scales = scales }

-- what a shape needs, and whether it is inside the limits; nothing where it is not
unfoldable pub need_replied : Shape → Outcome Need
need_replied s = outcome ((1 when not (within s)) ∷ []) (need (cell_total s) (scale_total s)) (need 0 0)

abbrev pub replied : {A : Type 0} → ℕ → A → Outcome A
replied reply x = record { reply = reply; result = x }
