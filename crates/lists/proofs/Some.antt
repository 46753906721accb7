-- A property of one of the numbers below n: found, or of none of them; and numbers that are counted up.
-- Each holds by the definition, at the last number.
use mathlib.Core.Path.{◌≡◌, refl}
use mathlib.Core.Bool.{Bool, true, false, ◌||◌}
use Prim.Native.Nat.{ℕ, zero, suc, ◌+◌, ◌*◌, ◌≤◌, ◌<◌}
use native.Mathlib.Nat.{not-suc-le-zero, suc-mul}
use native.Mathlib.Numerals.{add-one}
use native.Mathlib.Omega.{arith}
use lib.Dec.{eqb}
use borrow.Author.Tests.{eqb-true, eqb-false}
use Rattle.lists.specs.Chunks.{turns, some}

neither : (p q : Bool) → (p || q) ≡ false → (p ≡ false) × (q ≡ false)
neither true q h = (cc, cc)
neither false q h = (refl, h)

-- one number more of which it does not hold
pub some_next : (n : ℕ) (p : ℕ → Bool) → some n p ≡ false → p n ≡ false → some (n + 1) p ≡ false
unfolding some turns
some_next n p h e = rw add-one (rw (h, e))

-- where it holds of none, it does not hold of i: i is the last number or one before it
last : (n i : ℕ) (p : ℕ → Bool) (t : Bool) → eqb i n ≡ t → i < suc n → p n ≡ false → (i < n → p i ≡ false) → p i ≡ false
last n i p true e b h f = rw (eqb-true i n e) h
last n i p false e b h f = let d = eqb-false i n e in f (omega arith)

pub some_none : (n i : ℕ) (p : ℕ → Bool) → some n p ≡ false → i < n → p i ≡ false
unfolding some turns
some_none zero i p h b = absurd (not-suc-le-zero b)
some_none (suc n) i p h b =
    let s = neither (some n p) (p n) h in
    last n i p (eqb i n) refl b s.1 (some_none n i p s.0)

-- where it does not hold of each, it holds of none
pub some_never : (n : ℕ) (p : ℕ → Bool) → ((i : ℕ) → i < n → p i ≡ false) → some n p ≡ false
unfolding some turns
some_never zero p h = refl
some_never (suc n) p h = rw (some_never n p (λ i b. h i (omega arith)), h n (omega arith))

-- where it holds of i, it holds of one
found : (n i : ℕ) (p : ℕ → Bool) → i < n → p i ≡ true → (t : Bool) → some n p ≡ t → some n p ≡ true
found n i p b e true h = h
found n i p b e false h = let d = some_none n i p h b in cc

pub some_found : (n i : ℕ) (p : ℕ → Bool) → i < n → p i ≡ true → some n p ≡ true
some_found n i p b e = found n i p b e (some n p) refl

-- numbers added up: where they come to 0, what holds only of i whose number is not 0 holds of none
pub sum_none : (n : ℕ) (f : ℕ → ℕ) (p : ℕ → Bool) → ((i : ℕ) → f i ≡ 0 → p i ≡ false) → turns n (λ i sum. sum + f i) 0 ≡ 0 → some n p ≡ false
unfolding some turns
sum_none zero f p h e = refl
sum_none (suc n) f p h e =
    let last : f n ≡ 0 = omega arith in
    let before : turns n (λ i sum. sum + f i) 0 ≡ 0 = omega arith in
    rw (sum_none n f p h before, h n last)

-- n numbers of at most b come to at most n * b
pub sum_most : (n b : ℕ) (f : ℕ → ℕ) → ((i : ℕ) → f i ≤ b) → turns n (λ i sum. sum + f i) 0 ≤ n * b
unfolding turns
sum_most zero b f h = omega arith
sum_most (suc n) b f h = omega (arith, sum_most n b f h, h n, suc-mul n b)
