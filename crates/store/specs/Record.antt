-- The record, its lengths and the byte count: the paper's Record, under Shape and room, reply 3, and Lengths and bytes, under Calls.
use Rattle.std.specs.Prelude.{ℕ, ◌+◌, ◌*◌, Bool, cond, not, ltb, get_or, set, replicate}
use Rattle.lists.specs.Chunks.{turns, some}
use Rattle.shapes.specs.Shape.{bytes_of, words_of}
use Rattle.shapes.specs.declared.Shape.{Shape}
use Rattle.store.specs.declared.Record.{Record}

abbrev pub seq_len_of : Record → ℕ
seq_len_of r = r.seq_len

-- the positions of layer l
abbrev pub length_of : Record → ℕ → ℕ
length_of r l = get_or r.lens l 0

-- C below L, and 0 from L on
abbrev pub most_of : Shape → ℕ → ℕ
most_of s l = cond (ltb l s.layers) s.capacity 0

-- no length is over its most
unfoldable pub good_lengths : Record → Bool
good_lengths r = not (some 128 (λ l. ltb (most_of r.shape l) (length_of r l)))

-- a store of no positions
abbrev pub new_record_of : Shape → Record
new_record_of s = record { shape = s; lens = replicate 128 0; seq_len = 0 }

abbrev pub with_length_of : Record → ℕ → ℕ → Record
with_length_of r l n = record { shape = r.shape; lens = set r.lens l n; seq_len = r.seq_len }

abbrev pub with_seq_len : Record → ℕ → Record
with_seq_len r n = record { shape = r.shape; lens = r.lens; seq_len = n }

-- the bytes of one position in all heads and both sides, and of all positions
abbrev pub position_bytes_of : Shape → ℕ
position_bytes_of s = 2 * s.heads * (bytes_of s + 4 * words_of s)

unfoldable pub byte_count : Record → ℕ
byte_count r = turns r.shape.layers (λ l sum. sum + length_of r l * position_bytes_of r.shape) 0
