-- The lengths of a group's two forms, what its test tells, and how the two halves of the numbers make the whole.
use mathlib.Core.Path.{◌≡◌, refl, sym, ◌∙◌}
use mathlib.Core.Bool.{true}
use mathlib.Core.List.{List, ◌++◌, append_assoc}
use Prim.Native.Nat.{ℕ, ◌+◌, ◌/◌, ◌%◌, ◌^◌, ◌≤◌}
use borrow.Author.Tests.{leb-true}
use lib.Dec.{leb}
use lib.ListN.{length, get_or, take, drop, replicate, length-append, get_or-replicate}
use lib.Seq.{take_at, drop_at, drop-drop}
use lib.Ieee.{Float}
use Rattle.lists.proofs.Tab.{tab-length, tab_same, tab-replicate}
use Rattle.numbers.specs.Word.{word}
use Rattle.numbers.specs.Code.{code4, read4}
use Rattle.replies.proofs.Flags.{both}
use Rattle.groups.specs.Group.{packed, half, unpacked, holds, byte_at, group_number}

pub enough : (numbers bytes : ℕ) → holds numbers bytes ≡ true → (32 ≤ numbers) × (16 ≤ bytes)
unfolding holds
enough numbers bytes h =
    let t = both (leb 32 numbers) (leb 16 bytes) h in
    (leb-true 32 numbers t.0, leb-true 16 bytes t.1)

pub packed-length : (numbers : List ℕ) (scale : Float) → length (packed numbers scale) ≡ 16
unfolding packed
packed-length numbers scale = tab-length 16 (byte_at numbers scale)

half_length : (k : ℕ) (bytes : List ℕ) (scale : Float) → length (half k bytes scale) ≡ 16
unfolding half
half_length k bytes scale = tab-length 16 (group_number k bytes scale)

pub unpacked-length : (bytes : List ℕ) (scale : Float) → length (unpacked bytes scale) ≡ 32
unfolding unpacked
unpacked-length bytes scale = rw (length-append, half_length 0 bytes scale, half_length 4 bytes scale)

-- the low halves written to the first 16 places and then the high halves to the next 16
pub halves : (bytes : List ℕ) (scale : Float) (l : List ℕ)
    → let d = half 0 bytes scale ++ drop 16 l in take 16 d ++ (half 4 bytes scale ++ drop 16 (drop 16 d)) ≡ unpacked bytes scale ++ drop 32 l
unfolding unpacked
halves bytes scale l =
    let e = half_length 0 bytes scale in
    rw (take_at _ (drop 16 l) 16 e, drop_at _ (drop 16 l) 16 e, drop-drop, append_assoc)

-- a group of which every number has the code 8, and what such bytes read as
pub packed_alike : (numbers : List ℕ) (scale : Float) → ((i : ℕ) → code4 (get_or numbers i 0) scale ≡ 8) → packed numbers scale ≡ replicate 16 136
unfolding packed
packed_alike numbers scale h =
    tab_same 16 (byte_at numbers scale) (λ (i : ℕ). 136) (λ i l. rw (h i, h (i + 16))) ∙ sym (tab-replicate 16 136)

half_alike : (k : ℕ) (scale : Float) → 136 / 2 ^ k % 16 ≡ 8 → half k (replicate 16 136) scale ≡ replicate 16 (word (read4 8 scale))
unfolding half
half_alike k scale h =
    tab_same 16 (group_number k (replicate 16 136) scale) (λ (i : ℕ). word (read4 8 scale)) (λ i l. rw (get_or-replicate {A = ℕ} 16 i 136 0 l, h)) ∙ sym (tab-replicate 16 (word (read4 8 scale)))

pub unpacked_alike : (scale : Float) → unpacked (replicate 16 136) scale ≡ replicate 32 (word (read4 8 scale))
unfolding unpacked
unpacked_alike scale = rw (half_alike 0 scale refl, half_alike 4 scale refl)
