-- A number's digits are those of its tenth and the last one, however many places are left, and those that std prints; there are no more
-- than the number needs.
use mathlib.Core.Path.{◌≡◌, refl}
use mathlib.Core.Bool.{Bool, true, false}
use mathlib.Core.List.{[], ◌∷◌, ◌++◌}
use Prim.Native.Nat.{ℕ, zero, suc, ◌+◌, ◌/◌, ◌%◌, ◌^◌, ◌≤◌, ◌<◌}
use native.Mathlib.Nat.{pow-suc}
use native.Mathlib.Omega.{arith}
use lib.Dec.{ltb}
use lib.ListN.{length, length-append}
use borrow.Author.Tests.{lt-ltb, le-ltb, ltb-true, ltb-false}
use Rattle.std.proofs.lemmas.Fmt.{decimal_from_appends, length-decimal-le}
use Rattle.std.specs.Fmt as fmt
use Rattle.printing.specs.Text.{spelled, decimal}

-- a number has one digit or more
by_test : {P : Type 0} (n : ℕ) (t : Bool) → ltb n 10 ≡ t → (n < 10 → P) → (10 ≤ n → P) → P
by_test n true e f g = f (ltb-true n 10 e)
by_test n false e f g = g (ltb-false n 10 e)

by_digits : {P : Type 0} (n : ℕ) → (n < 10 → P) → (10 ≤ n → P) → P
by_digits n f g = by_test n (ltb n 10) refl f g

spelled_one : (k n : ℕ) → n < 10 → spelled (suc k) n ≡ (48 + n) ∷ []
unfolding spelled
spelled_one k n h = rw (lt-ltb n 10 h)

spelled-last : (k n : ℕ) → 10 ≤ n → spelled (suc k) n ≡ spelled k (n / 10) ++ ((48 + n % 10) ∷ [])
unfolding spelled
spelled-last k n h = rw (le-ltb n 10 h)

tenth : (n j : ℕ) → n < 10 ^ suc j → n / 10 < 10 ^ j
tenth n j h = let e = rw pow-suc at h in omega arith

-- one place more than are needed
more : (k n : ℕ) → (10 ≤ n → spelled (suc k) (n / 10) ≡ spelled k (n / 10)) → spelled (suc (suc k)) n ≡ spelled (suc k) n
more k n f =
    by_digits n (λ s. rw (spelled_one (suc k) n s, spelled_one k n s))
    (λ s. rw (spelled-last (suc k) n s, spelled-last k n s, f s))

spelled_more : (k n : ℕ) → n < 10 ^ suc k → spelled (suc (suc k)) n ≡ spelled (suc k) n
spelled_more zero n h = more zero n (λ s. absurd (omega arith))
spelled_more (suc k) n h = more (suc k) n (λ s. spelled_more k (n / 10) (tenth n (suc k) h))

-- as many digits as are needed
longer : (k j n : ℕ) → (10 ≤ n → length (spelled k (n / 10)) ≤ j) → length (spelled (suc k) n) ≤ suc j
longer k j n f =
    by_digits n (λ s. rw (spelled_one k n s) (omega arith))
    (λ s. let b = f s in rw (spelled-last k n s, length-append) (omega arith))

spelled-length : (k j n : ℕ) → n < 10 ^ suc j → length (spelled k n) ≤ suc j
unfolding spelled
spelled-length zero j n h = omega arith
spelled-length (suc k) zero n h = longer k zero n (λ s. absurd (omega arith))
spelled-length (suc k) (suc j) n h = longer k (suc j) n (λ s. spelled-length k j (n / 10) (tenth n (suc j) h))

pub decimal_one : (n : ℕ) → n < 10 → decimal n ≡ (48 + n) ∷ []
decimal_one n h = spelled_one 19 n h

pub decimal-last : (n : ℕ) → 10 ≤ n → n < 10 ^ 20 → decimal n ≡ decimal (n / 10) ++ ((48 + n % 10) ∷ [])
decimal-last n h w = rw (spelled-last 19 n h, spelled_more 18 (n / 10) (tenth n 19 w))

pub decimal_std : (n : ℕ) → n < 2 ^ 64 → decimal n ≡ fmt.decimal n
decimal_std n h =
    decimal_from_appends spelled (record { one = spelled_one; more = spelled-last }) 20 n h
    (length-decimal-le 20 n (omega arith) (omega arith) h)

-- the digits of any number, of the tenth of one of 64 bits, of one of 32 bits, and of a layer's length
digits_most : (k n : ℕ) → length (spelled k n) ≤ k
unfolding spelled
digits_most zero n = omega arith
digits_most (suc k) n = longer k k n (λ s. digits_most k (n / 10))

pub decimal-length : (n : ℕ) → length (decimal n) ≤ 20
decimal-length n = digits_most 20 n

pub tenth_length : (n : ℕ) → n < 2 ^ 64 → length (decimal (n / 10)) ≤ 19
tenth_length n h = spelled-length 20 18 (n / 10) (omega arith)

pub word-length : (n : ℕ) → n < 2 ^ 32 → length (decimal n) ≤ 10
word-length n h = spelled-length 20 9 n (omega arith)

pub small_length : (n : ℕ) → n ≤ 4096 → length (decimal n) ≤ 4
small_length n h = spelled-length 20 3 n (omega arith)
