-- What stands at a place of a call file: its numbers by their bytes, and a record that lies in the file.
-- Each holds by the definition, at each of its tests.
use mathlib.Core.Path.{◌≡◌, refl, ap, ◌∙◌}
use mathlib.Core.Bool.{Bool, true, false, cond}
use mathlib.Core.List.{List, [], ◌∷◌, ◌++◌}
use mathlib.Core.Logic.{◌⊎◌, inl, inr}
use Prim.Native.Nat.{ℕ, zero, suc, ◌+◌, ◌-◌, ◌*◌, ◌/◌, ◌^◌, ◌≤◌, ◌<◌}
use native.Mathlib.Nat.{add-zero, add_comm, mul-zero, mul-suc, pow-succ', mul_assoc}
use native.Mathlib.Omega.{arith}
use borrow.Author.Tests.{leb-true, leb-false, le-leb, lt-leb}
use lib.Dec.{eqb, leb}
use lib.ListN.{length, get_or, drop, length-drop}
use lib.Seq.{take-add, take_all, drop-drop, drop-cons, get_or-drop}
use Rattle.std.specs.Int.{from_le_bytes, w32}
use Rattle.std.specs.List.{slice_range}
use Rattle.std.specs.Simd.{first_chunks}
use Rattle.lists.specs.Bytes.{from_little}
use Rattle.lists.specs.Chunks.{part}
use Rattle.lists.proofs.Part.{part_length}
use Rattle.lists.proofs.Tab.{tab-length}
use Rattle.callfile.specs.declared.Entry.{Entry}
use Rattle.callfile.specs.declared.Entry.TheVariants.{Open, Append, Truncate, Advance, Report, End, Bad}
use Rattle.callfile.specs.Format.{number_at, words, lies, unless_cut, open_at, append_at_of, truncate_at_of, advance_at_of, kind_at, marked, entry_at_of, size_of, place_after, words_read}

-- the number of two rows of bytes
from_append : (a b : List ℕ) → from_little (a ++ b) ≡ from_little a + 256 ^ length a * from_little b
unfolding from_little
from_append [] b = omega arith
from_append (x ∷ a) b = rw (from_append a b, pow-succ', mul_assoc) (omega arith)

-- a byte, and k bytes with those that follow
pub number_byte : (file : List ℕ) (at : ℕ) → at < length file → number_at 1 file at ≡ get_or file at 0
unfolding number_at from_little
number_byte file at h = rw (drop-cons file at 0 h) (omega arith)

pub number_more : (k m : ℕ) (file : List ℕ) (at : ℕ) → at + k ≤ length file
    → number_at (k + m) file at ≡ number_at k file at + 256 ^ k * number_at m file (at + k)
unfolding number_at
number_more k m file at h = rw (take-add k m (drop at file), from_append, part_length at k file h, drop-drop)

-- a number of two bytes and one of four
pub number_pair : (file : List ℕ) (at : ℕ) → at + 2 ≤ length file → number_at 2 file at ≡ get_or file at 0 + 256 * get_or file (at + 1) 0
number_pair file at h =
    let b = number_byte file at (omega arith) in
    let e = number_byte file (at + 1) (omega arith) in
    omega (arith, number_more 1 1 file at (omega arith))

pub number_quad : (file : List ℕ) (at : ℕ) → at + 4 ≤ length file
    → number_at 4 file at
    ≡ get_or file at 0 + 256 * get_or file (at + 1) 0 + 65536 * get_or file (at + 2) 0 + 16777216 * get_or file (at + 3) 0
number_quad file at h =
    let b = number_pair file at (omega arith) in
    let s : at + 2 + 1 ≡ at + 3 = omega arith in
    let e = rw s at (number_pair file (at + 2) (omega arith)) in
    omega (arith, number_more 2 2 file at (omega arith))

-- chunk i of k chunks of n elements each
pub chunk_get : {A : Type 0} (n k i : ℕ) (xs : List A) (d : List A) → i < k → get_or (first_chunks n k xs) i d ≡ part (n * i) n xs
chunk_get n zero i xs d h = absurd (omega arith)
chunk_get n (suc k) zero xs d h = rw mul-zero
chunk_get n (suc k) (suc i) xs d h = rw (chunk_get n k i (drop n xs) d (omega arith), drop-drop, mul-suc, add_comm)

-- a number's own bytes
number_part : (k : ℕ) (file : List ℕ) (at : ℕ) → at + k ≤ length file → number_at k (part at k file) 0 ≡ number_at k file at
unfolding number_at
number_part k file at h = let l : length (part at k file) ≤ k = rw (part_length at k file h) (omega arith) in rw (take_all k (part at k file) l)

-- std's number of four bytes
pub number_word : (file : List ℕ) (at : ℕ) → at + 4 ≤ length file → from_le_bytes w32 (part at 4 file) ≡ number_at 4 file at
number_word file at h =
    let p = part at 4 file in
    let l : length p ≡ 4 = part_length at 4 file h in
    let q = number_quad p 0 (omega arith) in
    let s : number_at 4 p 0 ≡ number_at 4 file at = number_part 4 file at h in
    omega arith

-- what stands at a place stands at the start of the bytes from it on
module _ (file : List ℕ) (at : ℕ) where
  -- the bytes from a place on, to the end
  pub rest_from : {rest : List ℕ} → rest ≡ slice_range file at (length file) → rest ≡ drop at file
  rest_from r = r ∙ take_all (length file - at) (drop at file) (rw length-drop (omega arith))

  number_from : (k i : ℕ) → number_at k (drop at file) i ≡ number_at k file (at + i)
  unfolding number_at
  number_from k i = rw drop-drop

  lies_by : (k : ℕ) → 0 < k → (t : Bool) → lies k file at ≡ t → lies k (drop at file) 0 ≡ t
  lies_by k h true e = le-leb _ _ (rw length-drop (omega (arith, leb-true)))
  lies_by k h false e = lt-leb _ _ (rw length-drop (omega (arith, leb-false)))

  lies_from : (k : ℕ) → 0 < k → lies k (drop at file) 0 ≡ lies k file at
  lies_from k h = lies_by k h _ refl

  open_from : open_at (drop at file) 0 ≡ open_at file at
  unfolding open_at
  open_from = rw (lies_from 12 (omega arith)) (simp number_from)

  append_from : append_at_of (drop at file) 0 ≡ append_at_of file at
  unfolding append_at_of
  append_from =
      rw (lies_from 7 (omega arith), lies_from (7 + 8 * number_at 2 (drop at file) 5) (omega arith)) (simp number_from)

  truncate_from : truncate_at_of (drop at file) 0 ≡ truncate_at_of file at
  unfolding truncate_at_of
  truncate_from = rw (lies_from 7 (omega arith)) (simp number_from)

  advance_from : advance_at_of (drop at file) 0 ≡ advance_at_of file at
  unfolding advance_at_of
  advance_from = rw (lies_from 7 (omega arith)) (simp number_from)

  kind_from : (kind : ℕ) → kind_at kind (drop at file) 0 ≡ kind_at kind file at
  unfolding kind_at
  kind_from kind = rw (open_from, append_from, truncate_from, advance_from)

  end_by : (t : Bool) → leb (length file) at ≡ t → leb (length (drop at file)) 0 ≡ t
  end_by true e = le-leb _ _ (rw length-drop (omega (arith, leb-true)))
  end_by false e = lt-leb _ _ (rw length-drop (omega (arith, leb-false)))

  -- number i of those from the place on, where the bytes after it are taken four by four
  pub word_from : (i : ℕ) {rest : List ℕ} {words : List (List ℕ)} {v : ℕ} → rest ≡ drop at file → words ≡ first_chunks 4 (length rest / 4) rest
      → i < length rest / 4 → v ≡ from_le_bytes w32 (get_or words i []) → v ≡ number_at 4 file (at + 4 * i)
  word_from i {rest} r w h e =
      let g = rw (← w) at (chunk_get 4 (length rest / 4) i rest [] h) in
      e ∙ ap (from_le_bytes w32) g ∙ number_word rest (4 * i) (omega arith) ∙ ap (λ (l : List ℕ). number_at 4 l (4 * i)) r ∙ number_from 4 (4 * i)

  pub entry_from : entry_at_of (drop at file) 0 ≡ entry_at_of file at
  unfolding entry_at_of
  entry_from = rw (end_by _ refl, lies_from 3 (omega arith), kind_from) (simp (get_or-drop, add-zero))

-- numbers of 32 bits, and what a reading of them leaves
pub words-length : (n : ℕ) (file : List ℕ) (at : ℕ) → length (words n file at) ≡ n
unfolding words
words-length n file at = tab-length n _

pub words-read : (file : List ℕ) (at : ℕ) (out : List ℕ) → at + 4 * length out ≤ length file
    → words_read file at out ≡ words (length out) file at
unfolding words_read
words-read file at out h = rw (le-leb (at + 4 * length out) (length file) h)

pub words_kept : (file : List ℕ) (at : ℕ) (out : List ℕ) → length file < at + 4 * length out → words_read file at out ≡ out
unfolding words_read
words_kept file at out h = rw (lt-leb (at + 4 * length out) (length file) h)

-- no record stands where the place after is the place itself
pub size_none : (e : Entry) → size_of e ≡ 0 → (e ≡ End) ⊎ (e ≡ Bad)
size_none (Open s) h = absurd (omega arith)
size_none (Append l n) h = absurd (omega arith)
size_none (Truncate l t) h = absurd (omega arith)
size_none (Advance n) h = absurd (omega arith)
size_none Report h = absurd (omega arith)
size_none End h = inl refl
size_none Bad h = inr refl

pub stays : (file : List ℕ) (at : ℕ) → place_after file at ≡ at → (entry_at_of file at ≡ End) ⊎ (entry_at_of file at ≡ Bad)
stays file at h = size_none (entry_at_of file at) (omega arith)

-- a record lies in the next r bytes, and an append has at most 512 numbers a side
record Sized (r : ℕ) (e : Entry) : Type 0 where
  inside : size_of e ≤ r
  most : size_of e ≤ 7 + 8 * 512

module _ {r : ℕ} where
  bad_sized : Sized r Bad
  bad_sized = record { inside = omega arith; most = omega arith }

  picked : (t : Bool) {x y : Entry} → (t ≡ true → Sized r x) → Sized r y → Sized r (cond t x y)
  picked true f g = f refl
  picked false f g = g

module _ (file : List ℕ) (at : ℕ) where
  abbrev Here : Entry → Type 0
  Here = Sized (length file - at)

  -- a whole record of k bytes
  whole_here : (k : ℕ) (e : Entry) → size_of e ≡ k → k ≤ 7 + 8 * 512 → Here (unless_cut k file at e)
  whole_here k e s b =
      picked (lies k file at) (λ t. record { inside = omega (arith, leb-true); most = omega arith }) bad_sized

  append_here : Here (append_at_of file at)
  unfolding append_at_of
  append_here =
      let n = number_at 2 file (at + 5) in
      picked (lies 7 file at) (λ t. picked (leb n 512) (λ u. whole_here (7 + 8 * n) _ refl (omega (arith, leb-true))) bad_sized) bad_sized

  kind_here : (kind : ℕ) → at + 3 ≤ length file → Here (kind_at kind file at)
  unfolding kind_at open_at truncate_at_of advance_at_of
  kind_here kind h =
      picked (eqb kind 1) (λ t. whole_here 12 _ refl (omega arith))
      (picked (eqb kind 2) (λ t. append_here)
      (picked (eqb kind 3) (λ t. whole_here 7 _ refl (omega arith))
      (picked (eqb kind 4) (λ t. whole_here 7 _ refl (omega arith))
      (picked (eqb kind 5) (λ t. record { inside = omega arith; most = omega arith }) bad_sized))))

  entry_here : Here (entry_at_of file at)
  unfolding entry_at_of
  entry_here =
      picked (leb (length file) at) (λ t. record { inside = omega arith; most = omega arith })
      (picked (lies 3 file at)
      (λ t. picked (marked file at) (λ u. kind_here (get_or file (at + 2) 0) (leb-true _ _ t)) bad_sized)
      bad_sized)

-- the place after what stands at a place of the file is one too, and an append's numbers lie before it
pub entry_in_file : (file : List ℕ) (at : ℕ) → size_of (entry_at_of file at) ≤ length file - at
entry_in_file file at = (entry_here file at).inside

pub append_in_file : (file : List ℕ) (at : ℕ) {l n : ℕ} → entry_at_of file at ≡ Append l n → (at + 7 + 8 * n ≤ length file) × (n ≤ 512)
append_in_file file at e = let h = rw e at (entry_here file at) in (omega arith, omega arith)
