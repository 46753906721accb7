-- Chunks changed one by one: the length, and the turn of a loop over them.
-- Each holds by induction on the number of chunks, at the first chunk and at those that follow it.
use mathlib.Core.Path.{◌≡◌, refl, ap, ◌∙◌}
use mathlib.Core.List.{List, ◌++◌}
use Prim.Native.Nat.{ℕ, zero, suc, ◌+◌, ◌-◌, ◌*◌, ◌≤◌, suc-le-suc}
use native.Mathlib.Nat.{zero-mul, suc-mul, add_comm, zero-lt-suc}
use native.Mathlib.Numerals.{add-one}
use native.Mathlib.Omega.{arith}
use lib.ListN.{length, take, drop, length-append, length-drop}
use lib.Seq.{length-take-le}
use Rattle.lists.specs.Chunks.{part, at, each}
use Rattle.lists.proofs.Part.{KeepsEach}
use Rattle.lists.proofs.At.{at_front, at_lent, at_right}

module _ {A : Type 0} (k : ℕ) where
  -- of suc n chunks that fit and keep their length, the first does, and so do those that follow it
  fits : (n : ℕ) (l : List A) → suc n * k ≤ length l → (k ≤ length l) × (n * k ≤ length (drop k l))
  fits n l h = let e = suc-mul n k in (omega arith, simp length-drop (omega arith))

  first : (n : ℕ) (f : ℕ → List A → List A) (l : List A) → KeepsEach k (suc n) f → suc n * k ≤ length l
      → length (f 0 (take k l)) ≡ k
  first n f l keep h = keep 0 (zero-lt-suc n) (take k l) (length-take-le k l (fits n l h).0)

  later : (n : ℕ) (f : ℕ → List A → List A) → KeepsEach k (suc n) f → KeepsEach k n (λ i. f (suc i))
  later n f keep i w = keep (suc i) (suc-le-suc w)

  -- the length stays
  pub each-length : (n : ℕ) (f : ℕ → List A → List A) (l : List A) → KeepsEach k n f → n * k ≤ length l
      → length (each k n f l) ≡ length l
  unfolding each
  each-length zero f l keep h = refl
  each-length (suc n) f l keep h =
      let b = fits n l h in
      let r = each-length n (λ i. f (suc i)) (drop k l) (later n f keep) b.1 in
      simp (length-append, first n f l keep h, r, length-drop) (omega arith)

  -- the turn: chunk j changed makes j chunks changed j + 1
  each-suc : (j : ℕ) (f : ℕ → List A → List A) (l : List A) → KeepsEach k j f → j * k ≤ length l
      → at (j * k) k (f j) (each k j f l) ≡ each k (suc j) f l
  unfolding each
  each-suc zero f l keep h = rw (zero-mul, at_front)
  each-suc (suc j) f l keep h =
      rw (suc-mul, add_comm (j * k) k, at_right k (j * k) k (f (suc j)) (f 0 (take k l)) _ (first j f l keep h))
      (ap (λ (r : List A). f 0 (take k l) ++ r) (each-suc j (λ i. f (suc i)) (drop k l) (later j f keep) (fits j l h).1))

  pub each_turn : (j : ℕ) (f : ℕ → List A → List A) (l : List A) → KeepsEach k j f → j * k ≤ length l
      → at (j * k) k (f j) (each k j f l) ≡ each k (j + 1) f l
  each_turn j f l keep h = rw add-one (each-suc j f l keep h)

  -- the same of what a loop has in hand: out is l with j chunks changed, and out' is out with chunk j changed
  pub each_at : (j : ℕ) (f : ℕ → List A → List A) (l : List A) {out out' : List A} → KeepsEach k j f → j * k ≤ length l
      → out ≡ each k j f l → out' ≡ at (j * k) k (f j) out → out' ≡ each k (j + 1) f l
  each_at j f l keep h o e = e ∙ rw o (each_turn j f l keep h)

  -- and where `&mut out[j * k..e]` was lent and came back as f j of what was lent
  pub each_lent : (j : ℕ) (f : ℕ → List A → List A) (l : List A) {e : ℕ} {out y : List A} → KeepsEach k j f → j * k ≤ length l
      → out ≡ each k j f l → j * k + k ≡ e → y ≡ f j (part (j * k) (e - j * k) out)
      → take (j * k) out ++ (y ++ drop (e - j * k) (drop (j * k) out)) ≡ each k (j + 1) f l
  each_lent j f l {out = out} keep h o s q = each_at j f l keep h o (at_lent (j * k) k (f j) out s q)
  -- chunk j afterwards, and what lies past the n chunks
