-- What stands at a place of a call file: the paper's Records, under Call file.
use Rattle.std.specs.Prelude.{ℕ, ◌+◌, ◌*◌, Bool, cond, ◌&&◌, List, eqb, leb, length, get_or}
use Rattle.lists.specs.Bytes.{from_little}
use Rattle.lists.specs.Chunks.{tab, part}
use Rattle.callfile.specs.declared.Entry.{Entry}
use Rattle.callfile.specs.declared.Entry.TheVariants.{Open, Append, Truncate, Advance, Report, End, Bad}

-- the number of k bytes from a place on, least significant byte first
unfoldable pub number_at : ℕ → List ℕ → ℕ → ℕ
number_at k file at = from_little (part at k file)

-- n numbers of 32 bits from a place on
unfoldable pub words : ℕ → List ℕ → ℕ → List ℕ
words n file at = tab n (λ i. number_at 4 file (at + 4 * i))

-- whether k bytes from a place on lie in the file
abbrev pub lies : ℕ → List ℕ → ℕ → Bool
lies k file at = leb (at + k) (length file)

-- what stands there where all k bytes of its record do; else the record is cut
abbrev pub unless_cut : ℕ → List ℕ → ℕ → Entry → Entry
unless_cut k file at entry = cond (lies k file at) entry Bad

-- each kind: its fields follow the mark and the kind byte
unfoldable pub open_at : List ℕ → ℕ → Entry
open_at file at =
    unless_cut 12 file at
    (Open
    (record {
      format = number_at 1 file (at + 3);
      layers = number_at 2 file (at + 4);
      heads = number_at 2 file (at + 6);
      head_size = number_at 2 file (at + 8);
      capacity = number_at 2 file (at + 10);
    }))

unfoldable pub append_at_of : List ℕ → ℕ → Entry
append_at_of file at =
    let n = number_at 2 file (at + 5) in
    unless_cut 7 file at (cond (leb n 512) (unless_cut (7 + 8 * n) file at (Append (number_at 2 file (at + 3)) n)) Bad)

unfoldable pub truncate_at_of : List ℕ → ℕ → Entry
truncate_at_of file at = unless_cut 7 file at (Truncate (number_at 2 file (at + 3)) (number_at 2 file (at + 5)))

unfoldable pub advance_at_of : List ℕ → ℕ → Entry
advance_at_of file at = unless_cut 7 file at (Advance (number_at 4 file (at + 3)))

unfoldable pub kind_at : ℕ → List ℕ → ℕ → Entry
kind_at kind file at =
    cond (eqb kind 1) (open_at file at)
    (cond (eqb kind 2) (append_at_of file at)
    (cond (eqb kind 3) (truncate_at_of file at)
    (cond (eqb kind 4) (advance_at_of file at)
    (cond (eqb kind 5) Report Bad))))

-- the mark 4B 56
abbrev pub marked : List ℕ → ℕ → Bool
marked file at = eqb (get_or file at 0) 75 && eqb (get_or file (at + 1) 0) 86

-- the end, or a mark, a kind byte and the fields of that kind
unfoldable pub entry_at_of : List ℕ → ℕ → Entry
entry_at_of file at =
    cond (leb (length file) at) End (unless_cut 3 file at (cond (marked file at) (kind_at (get_or file (at + 2) 0) file at) Bad))

-- the bytes of a record; none where no record stands
abbrev pub size_of : Entry → ℕ
size_of (Open s) = 12
size_of (Append l n) = 7 + 8 * n
size_of (Truncate l t) = 7
size_of (Advance n) = 7
size_of Report = 3
size_of End = 0
size_of Bad = 0

-- the place after what stands at a place
abbrev pub place_after : List ℕ → ℕ → ℕ
place_after file at = at + size_of (entry_at_of file at)

-- the keys and the values of an append of n numbers a side
abbrev pub keys_at : ℕ → List ℕ → ℕ → List ℕ
keys_at n file at = words n file (at + 7)

abbrev pub values_at : ℕ → List ℕ → ℕ → List ℕ
values_at n file at = words n file (at + 7 + 4 * n)

-- numbers read into lent words; all as they were where the file has too few bytes
unfoldable pub words_read : List ℕ → ℕ → List ℕ → List ℕ
words_read file at out = cond (lies (4 * length out) file at) (words (length out) file at) out
