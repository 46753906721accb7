-- What stands in an INT4 row: a group's two halves, and its place among the groups.
-- Each holds by the laws of tables, or by where the number lies.
use mathlib.Core.Path.{◌≡◌, sym, ◌∙◌}
use mathlib.Core.List.{List}
use Prim.Native.Nat.{ℕ, ◌+◌, ◌*◌, ◌/◌, ◌%◌, ◌<◌}
use native.Mathlib.Nat.{add-sub_cancel_left}
use native.Mathlib.Omega.{arith}
use borrow.Author.Tests.{lt-ltb, le-ltb}
use lib.ListN.{length, get_or, set, take, drop, length-take, length-drop, take-append-drop}
use lib.Seq.{get_or-take, get_or-drop, take-set-le, take-set-lt, drop-set-add, drop-set-lt}
use lib.Ieee.{Float, nan, binary32, add, mul}
use Rattle.lists.specs.Chunks.{part}
use Rattle.lists.proofs.Tab.{tab-add, tab_same}
use Rattle.numbers.specs.Word.{float}
use Rattle.attention.specs.Order.{code_from, group_code, int4_term, added}
use Rattle.attention.proofs.OrderLaws.{added_to, added_next, added-all}

-- the two halves of a group's sums: the low codes' terms added at the first i of 16 places, and the high ones' at the first i of the next 16
module _ (x : Float) (bytes : List ℕ) (l : List Float) where
  abbrev term : ℕ → ℕ → Float
  term from i = mul binary32 x (code_from from bytes i)

  abbrev pub Halves : ℕ → List Float → Type 0
  Halves i out = (take 16 out ≡ added_to i (term 0) (take 16 l)) × (drop 16 out ≡ added_to i (term 4) (drop 16 l))

  pub halves_next : (i : ℕ) (out : List Float) {u v : Float} → length l ≡ 32 → i < 16 → Halves i out
      → u ≡ add binary32 (get_or out i nan) (term 0 i) → v ≡ add binary32 (get_or out (i + 16) nan) (term 4 i)
      → Halves (i + 1) (set (set out i u) (i + 16) v)
  halves_next i out {u} {v} h b k low high =
      let e : i + 16 ≡ 16 + i = omega arith in
      let s : i < length (take 16 l) = simp length-take (omega arith) in
      let t : i < length (drop 16 l) = simp length-drop (omega arith) in (
        rw (take-set-le 16 (set out i u) (i + 16) v (omega arith), take-set-lt 16 out i u b)
            (added_next (term 0) (take 16 l) i s k.0 (rw (get_or-take 16 out i nan b) low)),
        rw (e, drop-set-add 16 (set out i u) i v, drop-set-lt 16 out i u b)
            (added_next (term 4) (drop 16 l) i t k.1
            (rw (get_or-drop 16 out i nan, ← e) high)),
      )

  pub halves_all : {i : ℕ} (out : List Float) → length l ≡ 32 → i ≡ 16 → Halves i out → out ≡ added (λ j. mul binary32 x (group_code bytes j)) l
  unfolding added
  halves_all {i} out h e k =
      let s : length (take 16 l) ≡ 16 = simp length-take (omega arith) in
      let t : length (drop 16 l) ≡ 16 = simp length-drop (omega arith) in
      let y = added-all (term 0) (take 16 l) k.0 (omega arith) in
      let z = added-all (term 4) (drop 16 l) k.1 (omega arith) in
      let sum : ℕ → Float = λ j. add binary32 (get_or l j nan) (mul binary32 x (group_code bytes j)) in
      let first = tab_same 16 (λ j. add binary32 (get_or (take 16 l) j nan) (term 0 j)) sum (λ j b. rw (get_or-take 16 l j nan b, lt-ltb j 16 b)) in
      let rest = tab_same 16 (λ j. add binary32 (get_or (drop 16 l) j nan) (term 4 j)) (λ j. sum (16 + j))
      (λ j b. rw (get_or-drop 16 l j nan, le-ltb (16 + j) 16 (omega arith), add-sub_cancel_left)) in
      sym (take-append-drop 16 out) ∙ rw (y, z, s, t, h, first, rest, tab-add 16 16 sum)

-- number i of group g is number g * 32 + i of the row
pub group-term : (weight : Float) (cells scales : List ℕ) (g i : ℕ) → i < 32
    → mul binary32 (mul binary32 weight (float (get_or scales g 0))) (group_code (part (g * 16) 16 cells) i) ≡ int4_term weight cells scales (g * 32 + i)
group-term weight cells scales g i h =
    let q : (g * 32 + i) / 32 ≡ g = omega arith in
    let r : (g * 32 + i) % 32 ≡ i = omega arith in
    rw (q, r)
