-- What each call answers and leaves, refusals too: the paper's sections Replies and Calls.
use Rattle.std.specs.Prelude.{ℕ, ◌+◌, min, Bool, not, ◌&&◌, List, [], ◌∷◌, ◌++◌, eqb, ltb, leb, length, replicate, Result, Ok, Err}
use Rattle.replies.specs.declared.Refusal.{Refusal}
use Rattle.replies.specs.Reply.{refusal_number}
use Rattle.replies.specs.Outcome.{Case, ◌when◌, Outcome, outcome}
use Rattle.shapes.specs.Shape.{head_size_of, positions, cell_total, scale_total, within, room_refusals}
use Rattle.shapes.specs.declared.Shape.{Shape}
use Rattle.shapes.specs.Buffers.{Buffers, buffers}
use Rattle.rows.specs.Row.{row_numbers}
use Rattle.places.specs.Place.{cells_at_of, scales_at}
use Rattle.buffers.specs.Calls.{appended, removed, whole_rows}
use Rattle.store.specs.declared.Record.{Record}
use Rattle.store.specs.Record.{seq_len_of, length_of, good_lengths, new_record_of, with_length_of, with_seq_len, byte_count}

-- a record and both buffers
pub record Store : Type 0 where
  pub rec : Record
  pub memory : Buffers

abbrev pub store : Record → Buffers → Store
store r b = record { rec = r; memory = b }

-- the refusals of the two buffers' lengths
abbrev pub buffer_refusals : Shape → Buffers → List Case
buffer_refusals s b = room_refusals s (length b.cells) (length b.scales)

-- the refusals of a record, alone, with buffers of some lengths, and with both buffers
abbrev pub lengths_refusal : Record → List Case
lengths_refusal r = (3 when not (good_lengths r)) ∷ []

abbrev pub record_refusals : Record → List Case
record_refusals r = (1 when not (within r.shape)) ∷ lengths_refusal r

abbrev pub lent_refusals : Record → ℕ → ℕ → List Case
lent_refusals r cells scales = room_refusals r.shape cells scales ++ lengths_refusal r

abbrev pub store_refusals : Record → Buffers → List Case
store_refusals r b = lent_refusals r (length b.cells) (length b.scales)

-- the conditions of replies 4, 5 and 9: a layer and a head that are there, and room for as many keys past `len` positions
abbrev pub has_layer : Shape → ℕ → Bool
has_layer s l = ltb l s.layers

abbrev pub has_head : Shape → ℕ → ℕ → Bool
has_head s side h = ltb h s.heads && ltb side 2

abbrev pub fits_after : Shape → ℕ → ℕ → Bool
fits_after s len keys = leb (len + positions s keys) s.capacity

-- the refusals of each call past those of the store, where layer l has `len` positions
abbrev pub append_refusals : Shape → ℕ → ℕ → ℕ → ℕ → List Case
append_refusals s l len keys values =
    (4 when not (has_layer s l)) ∷ (7 when not (whole_rows s keys values)) ∷ (9 when not (fits_after s len keys)) ∷ []

abbrev pub remove_refusals : Shape → ℕ → List Case
remove_refusals s l = (4 when not (has_layer s l)) ∷ []

abbrev pub read_refusals : Shape → ℕ → ℕ → ℕ → ℕ → ℕ → ℕ → List Case
read_refusals s l len side h p out =
    (4 when not (has_layer s l))
    ∷ (5 when not (has_head s side h))
    ∷ (7 when not (eqb out (head_size_of s)))
    ∷ (8 when not (ltb p len))
    ∷ []

-- open: all zero
abbrev pub empty : Shape → Store
empty s = store (new_record_of s) (buffers (replicate (cell_total s) 0) (replicate (scale_total s) 0))

abbrev pub no_shape : Shape
no_shape = record { format = 0; layers = 0; heads = 0; head_size = 0; capacity = 0 }

unfoldable pub open_of : Shape → Buffers → Outcome Store
open_of s b = outcome (buffer_refusals s b) (empty s) (store (new_record_of no_shape) b)

-- append: the rows after the layer's positions, and its length
unfoldable pub append_of : Record → Buffers → ℕ → List ℕ → List ℕ → Outcome Store
append_of r b l keys values =
    let s = r.shape in
    let len = length_of r l in
    outcome (store_refusals r b ++ append_refusals s l len (length keys) (length values))
    (store (with_length_of r l (len + positions s (length keys))) (appended s l len keys values b)) (store r b)

-- truncate a layer to t: the positions from t on, and its length
unfoldable pub truncate_of : Record → Buffers → ℕ → ℕ → Outcome Store
truncate_of r b l t =
    let s = r.shape in
    let len = length_of r l in
    outcome (store_refusals r b ++ remove_refusals s l)
    (store (with_length_of r l (min len t)) (removed s l len t b))
    (store r b)

-- advance: the sequence number alone
abbrev pub sequence_refusal : Record → ℕ → List Case
sequence_refusal r count = (10 when not (leb (seq_len_of r + count) 4294967295)) ∷ []

unfoldable pub advance_of : Record → ℕ → Outcome Record
advance_of r count = outcome (record_refusals r ++ sequence_refusal r count) (with_seq_len r (seq_len_of r + count)) r

-- the length of a layer, and the byte count; 0 where refused
unfoldable pub cached_len_of : Record → ℕ → Outcome ℕ
cached_len_of r l = outcome (record_refusals r ++ remove_refusals r.shape l) (length_of r l) 0

unfoldable pub memory_bytes_of : Record → Outcome ℕ
memory_bytes_of r = outcome (record_refusals r) (byte_count r) 0

-- the numbers that layer l, a side, head h, position p reads as
unfoldable pub row_at : Shape → ℕ → ℕ → ℕ → ℕ → Buffers → List ℕ
row_at s l side h p b = row_numbers s.format (head_size_of s) (cells_at_of s l side h p b) (scales_at s l side h p b)

-- read a row
unfoldable pub read_of : Record → Buffers → ℕ → ℕ → ℕ → ℕ → List ℕ → Outcome (List ℕ)
read_of r b l side h p out =
    outcome (store_refusals r b ++ read_refusals r.shape l (length_of r l) side h p (length out)) (row_at r.shape l side h p b) out

-- what is opened, and counted: refused, no store is open, and the count is 0
abbrev pub opened : Result Record Refusal → Buffers → Outcome Store
opened (Ok r) b = record { reply = 0; result = store r b }
opened (Err x) b = record { reply = refusal_number x; result = store (new_record_of no_shape) b }

abbrev pub counted : Result ℕ Refusal → Outcome ℕ
counted (Ok n) = record { reply = 0; result = n }
counted (Err x) = record { reply = refusal_number x; result = 0 }
