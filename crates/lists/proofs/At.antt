-- A part changed: its length, and the part and the rest afterwards.
-- Each holds since a change lies in one half of the list, wherever the list is cut outside the part.
use mathlib.Core.Path.{◌≡◌, refl, sym, ◌∙◌}
use mathlib.Core.List.{List, ◌++◌, append_assoc}
use Prim.Native.Nat.{ℕ, ◌+◌, ◌-◌, ◌≤◌}
use native.Mathlib.Omega.{arith}
use lib.ListN.{length, take, drop, length-append, length-drop, take-append-drop}
use lib.Seq.{length-take-le, take_at, drop_at, take-add, drop-drop}
use Rattle.lists.specs.Chunks.{part, at}
use Rattle.lists.proofs.Part.{Keeps, part_length, part_before, part-after}

module _ {A : Type 0} (a k : ℕ) (f : List A → List A) (l : List A) where
  -- the definition, as an equation
  at_is : at a k f l ≡ take a l ++ (f (part a k l) ++ drop k (drop a l))
  unfolding at
  at_is = refl

  -- what a lent `&mut l[a..e]` leaves, where the part that comes back is f of the part that was lent
  pub at_lent : {e : ℕ} {y : List A} → a + k ≡ e → y ≡ f (part a (e - a) l) → take a l ++ (y ++ drop (e - a) (drop a l)) ≡ at a k f l
  at_lent {e} h q = let w : e - a ≡ k = omega arith in rw (q, w) (sym at_is)

  -- a function that leaves the part leaves the list
  pub at_id : f (part a k l) ≡ part a k l → at a k f l ≡ l
  at_id e = at_is ∙ rw (e, take-append-drop, take-append-drop)

  -- what lies before the part, and a part of that, are as they were
  pub at_before : a ≤ length l → take a (at a k f l) ≡ take a l
  at_before h = rw at_is (take_at (take a l) _ a (length-take-le a l h))

  pub at_part_before : (b m : ℕ) → b + m ≤ a → a ≤ length l → part b m (at a k f l) ≡ part b m l
  at_part_before b m w h = part_before b m a (at a k f l) l (at_before h) w

  module _ (keep : Keeps k f) (h : a + k ≤ length l) where
    -- the lengths of what lies before the part and of the part afterwards
    start : length (take a l) ≡ a
    start = length-take-le a l (omega arith)

    middle : length (f (part a k l)) ≡ k
    middle = keep (part a k l) (part_length a k l h)

    -- the length stays
    pub at_length : length (at a k f l) ≡ length l
    at_length = rw at_is (simp (length-append, start, middle, length-drop) (omega arith))

    -- the part afterwards
    pub at_part : part a k (at a k f l) ≡ f (part a k l)
    at_part = rw (at_is, drop_at (take a l) _ a start) (take_at (f (part a k l)) _ k middle)

    -- what lies after the part, and a part of that, are as they were
    pub at_after : drop (a + k) (at a k f l) ≡ drop (a + k) l
    at_after = rw (at_is, ← drop-drop k a l, ← drop-drop, drop_at (take a l) _ a start) (drop_at (f (part a k l)) _ k middle)

    pub at_part-after : (b m : ℕ) → a + k ≤ b → part b m (at a k f l) ≡ part b m l
    at_part-after b m w = part-after b m (a + k) (at a k f l) l at_after w

module _ {A : Type 0} where
  -- the first k elements changed
  pub at_front : (k : ℕ) (f : List A → List A) (l : List A) → at 0 k f l ≡ f (take k l) ++ drop k l
  at_front k f l = at_is 0 k f l

  -- cut at the part or before it, the change lies in the second half
  pub at_add : (a b k : ℕ) (f : List A → List A) (l : List A) → at (a + b) k f l ≡ take a l ++ at b k f (drop a l)
  unfolding at
  at_add a b k f l = rw (take-add, ← drop-drop, append_assoc)

  pub at_right : (n b k : ℕ) (f : List A → List A) (p r : List A) → length p ≡ n → at (n + b) k f (p ++ r) ≡ p ++ at b k f r
  at_right n b k f p r e = rw (at_add, take_at p r n e, drop_at p r n e)

  -- a change of a part keeps the length of a list that it lies in
  pub at_keeps : (a k n : ℕ) (f : List A → List A) → Keeps k f → a + k ≤ n → Keeps n (at a k f)
  at_keeps a k n f keep h x e = at_length a k f x keep (omega arith) ∙ e
