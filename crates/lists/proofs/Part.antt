-- A part of a list, the k elements from a place: where it lies, and which longer or shorter lists have the same part.
-- Each holds by the laws of `take`, `drop` and `◌++◌`.
use mathlib.Core.Path.{◌≡◌, sym, ap, ◌∙◌}
use mathlib.Core.List.{List, [], ◌∷◌, ◌++◌}
use Prim.Native.Nat.{ℕ, zero, suc, ◌+◌, ◌-◌, ◌*◌, ◌≤◌, ◌<◌, suc-le-suc}
use native.Mathlib.Nat.{mul-le-mul_right, add-mul, suc-mul, zero-mul, zero-add, suc-add, zero-lt-suc, add_comm}
use native.Mathlib.Omega.{arith}
use lib.ListN.{length, take, drop, replicate, length-take, length-drop, length-replicate, replicate-append-replicate}
use Rattle.lists.specs.Chunks.{part}
use lib.Seq.{take_at, drop_at, take-add, take-take, drop-drop, take-nil, take_all}

-- chunk n of m lies within them, and so does each of its places
pub room : (k : ℕ) {n m : ℕ} → n < m → n * k + k ≤ m * k
room k {n} {m} h = omega (arith, mul-le-mul_right {m = suc n} k h, suc-mul n k)

pub room_in : (k : ℕ) {n m i : ℕ} → n < m → i ≤ k → n * k + i ≤ m * k
room_in k h b = omega (arith, room k h)

-- a part lent as `[a..e]` has r elements, which are k
pub lent_count : (a : ℕ) {e r k : ℕ} → a + r ≡ e → r ≡ k → e - a ≡ k
lent_count a q h = omega arith

module _ {A : Type 0} where
  -- f takes k elements to k elements
  abbrev pub Keeps : ℕ → (List A → List A) → Type 0
  Keeps k f = (x : List A) → length x ≡ k → length (f x) ≡ k

  -- and so does each of the first n
  abbrev pub KeepsEach : ℕ → ℕ → (ℕ → List A → List A) → Type 0
  KeepsEach k n f = (i : ℕ) → i < n → Keeps k (f i)

  pub part_length : (a k : ℕ) (l : List A) → a + k ≤ length l → length (part a k l) ≡ k
  part_length a k l h = simp (length-take, length-drop) (omega arith)

  -- what is taken and then dropped may be dropped and then taken
  pub drop-take : (a b : ℕ) (l : List A) → drop a (take (a + b) l) ≡ take b (drop a l)
  drop-take zero b l = rw zero-add
  drop-take (suc a) b [] = rw (suc-add, take-nil)
  drop-take (suc a) b (x ∷ l) = rw suc-add (drop-take a b l)

  -- a part of the first a
  pub part-take : (b m a : ℕ) (l : List A) → b + m ≤ a → part b m (take a l) ≡ part b m l
  part-take b m a l h =
      let e : a ≡ b + (a - b) = omega arith in
      let w : m ≤ a - b = omega arith in
      ap (λ (n : ℕ). part b m (take n l)) e ∙ rw (drop-take, take-take)

  -- a part of a part
  pub part-part : (a k b m : ℕ) (l : List A) → b + m ≤ k → part b m (part a k l) ≡ part (a + b) m l
  part-part a k b m l h = rw (part-take, drop-drop)

  -- lists with one beginning, and lists with one end, have their parts there in common
  pub part_before : (b m n : ℕ) (l l' : List A) → take n l ≡ take n l' → b + m ≤ n → part b m l ≡ part b m l'
  part_before b m n l l' e h = sym (part-take b m n l h) ∙ rw e (part-take b m n l' h)

  pub part-after : (b m n : ℕ) (l l' : List A) → drop n l ≡ drop n l' → n ≤ b → part b m l ≡ part b m l'
  part-after b m n l l' e h =
      let s : b ≡ n + (b - n) = omega arith in
      rw (s, ← drop-drop (b - n) n l', ← drop-drop (b - n) n l, e)

  -- a part of the first of two lists, and of the second

  pub part_right : (n a k : ℕ) (p r : List A) → length p ≡ n → part (n + a) k (p ++ r) ≡ part a k r
  part_right n a k p r e = rw (← drop-drop, drop_at p r n e)

  -- a part of equal elements
  pub part-replicate : (a k n : ℕ) (z : A) → a + k ≤ n → part a k (replicate n z) ≡ replicate k z
  part-replicate a k n z h =
      let e : n ≡ a + (k + (n - (a + k))) = omega arith in
      ap (λ (m : ℕ). part a k (replicate m z)) e
      ∙ rw (← replicate-append-replicate, ← replicate-append-replicate, drop_at _ _ a (length-replicate a z))
      (take_at _ _ k (length-replicate k z))

  -- chunk i + 1 of a list is chunk i of what follows its first chunk
  pub part_next : (k i : ℕ) (l : List A) → part (suc i * k) k l ≡ part (i * k) k (drop k l)
  part_next k i l = rw (suc-mul, add_comm, ← drop-drop)

  -- chunk i of the n chunks from chunk p on is chunk p + i
  pub part_chunk : (k p n i : ℕ) (l : List A) → i < n → part (i * k) k (part (p * k) (n * k) l) ≡ part ((p + i) * k) k l
  part_chunk k p n i l h = let b = room k h in rw (part-part, add-mul)

  -- lists with n equal chunks begin alike
  pub chunks_take : (k n : ℕ) (l l' : List A)
      → ((i : ℕ) → i < n → part (i * k) k l ≡ part (i * k) k l') → take (n * k) l ≡ take (n * k) l'
  chunks_take k zero l l' e = rw zero-mul
  chunks_take k (suc n) l l' e =
      let a : take k l ≡ take k l' = rw zero-mul at (e 0 (zero-lt-suc n)) in
      let b = chunks_take k n (drop k l) (drop k l') (λ i w. rw (part_next k i l, part_next k i l') at (e (suc i) (suc-le-suc w))) in
      rw (suc-mul, add_comm (n * k) k, take-add k (n * k) l, take-add, a, b)

  -- and are equal where that is all they have
  pub chunks_ext : (k n : ℕ) (l l' : List A) → length l ≡ n * k → length l' ≡ n * k
      → ((i : ℕ) → i < n → part (i * k) k l ≡ part (i * k) k l') → l ≡ l'
  chunks_ext k n l l' h h' e = sym (take_all (n * k) l (omega arith)) ∙ chunks_take k n l l' e ∙ take_all (n * k) l' (omega arith)
