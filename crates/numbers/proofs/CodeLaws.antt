-- A clamped number lies in its clamp range, so an INT8 code is a byte other than 80 hex, and an INT4 code is a nibble.
use Rattle.std.proofs.Common.{◌≡◌, ℕ, zero, suc, ◌+◌, ◌%◌, ◌<◌, ◌≤◌, true, false, ◌≢◌, ℤ, pos, negsuc, neg_ℤ, ap, zero-le, le_refl, arith, w8, of_z}
use native.Mathlib.Nat.{min-le_right}
use lib.Ieee.{Float, nan, inf, fin, binary32, div}
use Rattle.numbers.specs.Word.{float}
use Rattle.numbers.specs.Code.{nearest_whole_of, clamped, above, code8, code4}

-- -low .. high
abbrev pub Within : ℕ → ℕ → ℤ → Type 0
Within low high (pos n) = n ≤ high
Within low high (negsuc n) = suc n ≤ low

minus_within : (low high n : ℕ) → n ≤ low → Within low high (neg_ℤ (pos n))
minus_within low high zero h = zero-le
minus_within low high (suc n) h = h

pub clamped-within : (low high : ℕ) (x : Float) → Within low high (clamped low high x)
unfolding clamped
clamped-within low high nan = zero-le
clamped-within low high (inf true) = minus_within low high low (le_refl low)
clamped-within low high (inf false) = le_refl high
clamped-within low high (fin true m e) = minus_within low high _ (min-le_right (nearest_whole_of m e) low)
clamped-within low high (fin false m e) = min-le_right (nearest_whole_of m e) high

above_within : (low high : ℕ) (z : ℤ) → Within low high z → above low z ≤ low + high
above_within low high (pos n) h = omega arith
above_within low high (negsuc n) h = omega arith

pub clamped-above : (low high : ℕ) (x : Float) → above low (clamped low high x) ≤ low + high
clamped-above low high x = above_within low high (clamped low high x) (clamped-within low high x)

-- two's complement in a byte
byte : (z : ℤ) → Within 127 127 z → (of_z w8 z < 256) × (of_z w8 z ≢ 128) × (above 256 z % 256 ≡ of_z w8 z)
byte (pos n) h = omega arith
byte (negsuc n) h = omega arith

module _ (w : ℕ) (scale : Float) where
  -- the code of a number whose quotient is clamped as z
  pub code8-clamped : {z : ℤ} → clamped 127 127 (div binary32 (float w) scale) ≡ z → code8 w scale ≡ of_z w8 z
  unfolding code8
  code8-clamped h = ap (of_z w8) h

  pub code4-clamped : {z : ℤ} → clamped 8 7 (div binary32 (float w) scale) ≡ z → code4 w scale ≡ above 8 z
  unfolding code4
  code4-clamped h = ap (above 8) h

  code8_of : (code8 w scale < 256) × (code8 w scale ≢ 128) × (above 256 (clamped 127 127 (div binary32 (float w) scale)) % 256 ≡ code8 w scale)
  unfolding code8
  code8_of = byte (clamped 127 127 (div binary32 (float w) scale)) (clamped-within 127 127 (div binary32 (float w) scale))

  pub code8_byte : code8 w scale < 256
  code8_byte = code8_of.0

  pub code8_never_80 : code8 w scale ≢ 128
  code8_never_80 = code8_of.1

  pub code8_wraps : above 256 (clamped 127 127 (div binary32 (float w) scale)) % 256 ≡ code8 w scale
  code8_wraps = code8_of.2

  pub code4_nibble : code4 w scale < 16
  unfolding code4
  code4_nibble = omega (arith, clamped-above 8 7 (div binary32 (float w) scale))
