-- Lists in a row: their length, one of them, and the chunks of a list replaced by them.
-- Each holds by induction on the number of lists, at the first and at those that follow it.
use mathlib.Core.Path.{◌≡◌, ◌∙◌}
use mathlib.Core.List.{List, ◌++◌, append-nil, append_assoc}
use Prim.Native.Nat.{ℕ, zero, suc, ◌*◌, ◌≤◌, ◌<◌, suc-le-suc}
use native.Mathlib.Nat.{zero-mul, suc-mul, add_comm, zero-lt-suc, not-suc-le-zero, le_of_suc-le-suc}
use native.Mathlib.Omega.{arith}
use lib.ListN.{length, drop, replicate, length-append, replicate-append-replicate, drop_of_length-le}
use lib.Seq.{take_at, drop-drop}
use Rattle.lists.specs.Chunks.{part, joined, each}
use Rattle.lists.proofs.Part.{part_right}

module _ {A : Type 0} where
  -- each of the first n lists has k elements
  abbrev pub Sized : ℕ → ℕ → (ℕ → List A) → Type 0
  Sized k n f = (i : ℕ) → i < n → length (f i) ≡ k

  later : (k n : ℕ) (f : ℕ → List A) → Sized k (suc n) f → Sized k n (λ i. f (suc i))
  later k n f s i h = s (suc i) (suc-le-suc h)

  pub joined_length : (k n : ℕ) (f : ℕ → List A) → Sized k n f → length (joined n f) ≡ n * k
  unfolding joined
  joined_length k zero f s = rw zero-mul
  joined_length k (suc n) f s =
      simp (length-append, s 0 (zero-lt-suc n), joined_length k n (λ i. f (suc i)) (later k n f s), suc-mul) (omega arith)

  -- list j
  pub joined-part : (k n j : ℕ) (f : ℕ → List A) → Sized k n f → j < n → part (j * k) k (joined n f) ≡ f j
  unfolding joined
  joined-part k zero j f s h = absurd (not-suc-le-zero h)
  joined-part k (suc n) zero f s h = rw zero-mul (take_at (f 0) _ k (s 0 (zero-lt-suc n)))
  joined-part k (suc n) (suc j) f s h =
      rw (suc-mul, add_comm (j * k) k, part_right k (j * k) k (f 0) _ (s 0 (zero-lt-suc n)))
      (joined-part k n j (λ i. f (suc i)) (later k n f s) (le_of_suc-le-suc h))

  -- equal elements throughout
  pub joined-replicate : (k n : ℕ) (z : A) → joined n (λ i. replicate k z) ≡ replicate (n * k) z
  unfolding joined
  joined-replicate k zero z = rw zero-mul
  joined-replicate k (suc n) z = rw (joined-replicate k n z, replicate-append-replicate, suc-mul, add_comm k (n * k))

  -- chunks replaced, whatever they were: the lists, then the rest
  pub each-joined : (k n : ℕ) (f : ℕ → List A) (l : List A) → each k n (λ i x. f i) l ≡ joined n f ++ drop (n * k) l
  unfolding joined each
  each-joined k zero f l = rw zero-mul
  each-joined k (suc n) f l =
      rw (each-joined k n (λ i. f (suc i)) (drop k l), drop-drop, suc-mul, add_comm (n * k) k, append_assoc)

  -- a list of n chunks, each replaced
  pub each_full : (k n : ℕ) (f : ℕ → List A) (l : List A) → length l ≡ n * k → each k n (λ i x. f i) l ≡ joined n f
  each_full k n f l e = let h : length l ≤ n * k = omega arith in each-joined k n f l ∙ rw (drop_of_length-le l h) (append-nil (joined n f))
