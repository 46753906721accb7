-- What a flag says: of both its parts, and of the definition that a call's answer is.
use mathlib.Core.Path.{◌≡◌, refl, sym, ◌∙◌}
use mathlib.Core.Bool.{Bool, true, false, cond, ◌&&◌}
use Prim.Native.Nat.{ℕ, ◌+◌, ◌-◌, ◌≤◌, ◌<◌}
use native.Mathlib.Decide.{dec_lt}
use native.Mathlib.Omega.{arith}
use lib.Dec.{leb}
use borrow.Author.Tests.{le-leb, lt-leb}

pub both : (p q : Bool) → (p && q) ≡ true → (p ≡ true) × (q ≡ true)
both true q h = (refl, h)
both false q h = (cc, cc)

pub both_true : {p q : Bool} → p ≡ true → q ≡ true → (p && q) ≡ true
both_true e h = rw (e, h)

pub passed : {t u : Bool} → t ≡ u → t ≡ true → u ≡ true
passed e h = sym e ∙ h

pub failed : {t u : Bool} → t ≡ u → t ≡ false → u ≡ false
failed e h = sym e ∙ h

-- a choice between two that are alike
pub alike : {A : Type 0} (b : Bool) (x : A) → cond b x x ≡ x
alike true x = refl
alike false x = refl

-- a part that fails, last of many
pub and_false : (b : Bool) → (b && false) ≡ false
and_false true = refl
and_false false = refl

-- n more past p are within c, tested without a sum
pub within_rest : (p n c : ℕ) → p ≤ c → leb n (c - p) ≡ leb (p + n) c
within_rest p n c h = either (dec_lt (c - p) n)
  where
    either : Dec (c - p < n) → leb n (c - p) ≡ leb (p + n) c
    either (yes w) = rw (lt-leb n (c - p) w, lt-leb (p + n) c (omega arith))
    either (no w) = rw (le-leb n (c - p) (omega arith), le-leb (p + n) c (omega arith))
