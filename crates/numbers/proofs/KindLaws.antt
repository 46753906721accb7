-- The float of a word of each kind, and its code where the scale does not matter, is infinite or is 0: once over the clamp range.
use Rattle.std.proofs.Common.{◌≡◌, ℕ, zero, suc, ◌*◌, ◌%◌, ◌^◌, ◌<◌, ◌≤◌, Bool, true, false, cond, not, T, leb, ℤ, pos, neg_ℤ, sym, refl, ◌∙◌, inl, inr, zero-le, lt_irrefl, mul-pos, zero-mul, arith, pow_pos, le-leb}
use native.Mathlib.Nat.{zero-div}
use borrow.Author.Tests.{lt-leb}
use lib.Dec.{eqb-suc-zero}
use lib.Ieee.{Float, nan, inf, fin, binary32, up, down, unlike, size, span, climb, odd, round, div, mul, is_nan, of_fields, of_int, to_bits}
use lib.Ieee.Bits.{to_bits-of_bits, nan_bits_is}
use lib.Ieee.Exact.{HasValue, round_exact}
use lib.Ieee.Fits.{up_pos, down_pos}
use Rattle.numbers.specs.Word.{float, word}
use Rattle.numbers.specs.Code.{clamped, read8, less8, read4}
use Rattle.numbers.specs.Kind.{ZeroWord, InfWord, BlankWord, AboveZero, BelowZero}
use Rattle.numbers.proofs.ValueLaws.{clamped_value}
use Rattle.numbers.proofs.Patterns.{signed, bare, with_sign, without_sign, above_infinity, up_to_infinity}

-- a zero or a NaN
abbrev pub Blank : Float → Type 0
Blank nan = Unit {0}
Blank (inf s) = ⊥
Blank (fin s m e) = m ≡ 0

-- a number other than 0 with the sign s, finite or infinite
abbrev pub Signed : Bool → Float → Type 0
Signed s nan = ⊥
Signed s (inf t) = t ≡ s
Signed s (fin t m e) = (t ≡ s) × (0 < m)

pub zero_word : (w : ℕ) → ZeroWord w → float w ≡ fin (leb 2147483648 w) 0 (pos 0)
unfolding of_fields odd
zero_word w h =
    let d : w % 8388608 ≡ 0 = omega arith in
    with_sign w ∙ rw (h, d)

pub inf_word : (w : ℕ) → InfWord w → float w ≡ inf (leb 2147483648 w)
unfolding of_fields
inf_word w h =
    let d : w % 8388608 ≡ 0 = omega arith in
    with_sign w ∙ rw (h, d)

pub blank_word : (w : ℕ) → BlankWord w → Blank (float w)
blank_word w (inl h) = rw (zero_word w h)
blank_word w (inr h) = rw (above_infinity w h) tt

-- a finite number whose digits are all 0 has the pattern 0
no_digits : (e : ℤ) → word (fin false 0 e) ≡ 0
unfolding to_bits size span climb
no_digits e = rw (zero-mul (up e), zero-mul (2 ^ 149), zero-div (down e))

with_digits : (s : Bool) (v : Float) → T (not (is_nan (signed false v))) → 0 < word (signed false v) → Signed s (signed s v)
unfolding is_nan
with_digits s nan n h = absurd n
with_digits s (inf t) n h = refl
with_digits s (fin t zero e) n h = absurd (lt_irrefl 0 (rw (no_digits e) at h))
with_digits s (fin t (suc m) e) n h = (refl, omega arith)

signed_word : (w : ℕ) → 0 < w % 2147483648 → w % 2147483648 ≤ 2139095040 → Signed (leb 2147483648 w) (float w)
signed_word w h k =
    let n : T (not (is_nan (float (w % 2147483648)))) = rw (nan_bits_is binary32 (w % 2147483648)) at (up_to_infinity (w % 2147483648) (omega arith)) in
    let b : word (float (w % 2147483648)) ≡ w % 2147483648 = to_bits-of_bits binary32 (w % 2147483648) (omega arith) n in
    rw (with_sign w) (with_digits (leb 2147483648 w) (bare w) (rw (← without_sign w) n) (rw (← without_sign w, b) h))

pub above_word : (w : ℕ) → AboveZero w → Signed false (float w)
above_word w h = rw (lt-leb 2147483648 w (omega (arith, h.1))) at (signed_word w (omega (arith, h.0, h.1)) (omega (arith, h.0, h.1)))

pub below_word : (w : ℕ) → BelowZero w → Signed true (float w)
below_word w h = rw (le-leb 2147483648 w (omega (arith, h.0))) at (signed_word w (omega (arith, h.0, h.1)) (omega (arith, h.0, h.1)))

-- 0 divided by anything above 0 is 0
round_zero : (s : Bool) (c : ℕ) → 0 < c → HasValue (round binary32 s 0 c) s 0 c
round_zero s c h = round_exact binary32 s 0 c 0 0 h (pow_pos 24) (pow_pos 277) (sym (zero-mul c))

module _ (low high : ℕ) where
  clamped_zero : (x : Float) (s : Bool) (c : ℕ) → 0 < c → HasValue x s 0 c → clamped low high x ≡ pos 0
  clamped_zero x true c p v = clamped_value 0 0 c p (omega arith) (omega arith) low high x true zero-le zero-le v
  clamped_zero x false c p v = clamped_value 0 0 c p (omega arith) (omega arith) low high x false zero-le zero-le v

  -- anything, under an infinite scale
  pub infinite_clamped : (x : Float) (s : Bool) → clamped low high (div binary32 x (inf s)) ≡ pos 0
  unfolding clamped div
  infinite_clamped nan s = refl
  infinite_clamped (inf t) s = refl
  infinite_clamped (fin t m e) s = clamped_zero (fin (unlike t s) 0 (pos 0)) (unlike t s) 1 (omega arith) (refl, refl)

  -- a zero or a NaN, under any scale
  pub blank_clamped : (x scale : Float) → Blank x → clamped low high (div binary32 x scale) ≡ pos 0
  unfolding clamped div
  blank_clamped nan scale b = refl
  blank_clamped (inf s) scale b = absurd b
  blank_clamped (fin s m e) nan b = refl
  blank_clamped (fin s m e) (inf t) b = infinite_clamped (fin s m e) t
  blank_clamped (fin s m e) (fin t zero d) b = rw b
  blank_clamped (fin s m e) (fin t (suc n) d) b =
      let c = suc n * up d * down e in
      let p : 0 < c = mul-pos (mul-pos (omega arith) (up_pos d)) (down_pos e) in
      rw (eqb-suc-zero n, b, zero-mul (up e), zero-mul (down d)) (clamped_zero (round binary32 (unlike s t) 0 c) (unlike s t) c p (round_zero (unlike s t) c p))

  -- a number other than 0, under a scale of 0
  pub zero_clamped : (x : Float) (s t : Bool) (e : ℤ) → Signed s x → clamped low high (div binary32 x (fin t 0 e)) ≡ cond (unlike s t) (neg_ℤ (pos low)) (pos high)
  unfolding clamped div
  zero_clamped nan s t e n = absurd n
  zero_clamped (inf r) s t e n = rw n
  zero_clamped (fin r zero d) s t e n = absurd (lt_irrefl 0 n.1)
  zero_clamped (fin r (suc m) d) s t e n = rw (eqb-suc-zero m, n.0)

-- the code of 0, under an infinite scale, reads as a NaN
pub infinite_read8 : (s : Bool) → read8 0 (inf s) ≡ nan
unfolding read8 mul of_int
infinite_read8 s = refl

pub infinite_read4 : (s : Bool) → read4 8 (inf s) ≡ nan
unfolding read4 less8 mul of_int
infinite_read4 s = refl
