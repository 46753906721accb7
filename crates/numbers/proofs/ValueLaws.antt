-- A number from k - 1/2 on and below k + 1/2 is clamped as k, with its sign; by patterns, where k is 0 or 1.
use Rattle.std.proofs.Common.{◌≡◌, ℕ, zero, suc, ◌+◌, ◌*◌, ◌/◌, ◌%◌, ◌^◌, ◌<◌, ◌≤◌, Bool, true, false, cond, leb, ◌⊎◌, ℤ, pos, negsuc, neg_ℤ, sym, refl, ◌∙◌, inl, inr, zero-le, lt_of_lt_of_le, mul-le-mul_right, eq-or-lt_of_le, mul-lt-mul_of_pos_right, mul-one, arith, pow_pos, pow_mono, shl_lt, ne_eqb}
use native.Mathlib.Nat.{min-eq_left}
use borrow.Author.Tests.{lt-leb}
use lib.Ieee.{Float, nan, inf, fin, binary32, up, down, of_fields, of_bits}
use lib.Ieee.Exact.{HasValue, odd_sign}
use lib.Ieee.Fits.{down_pos}
use lib.Ieee.Nearest.{div_same}
use Rattle.numbers.specs.Word.{float}
use Rattle.numbers.specs.Code.{nearest_whole_of, clamped}
use Rattle.numbers.proofs.Rounding.{nearest_is}

module _ (k a c : ℕ) (p : 0 < c) (l : 2 * (k * c) ≤ 2 * a + c) (h : 2 * a < 2 * (k * c) + c) where
  nearest_value : (m : ℕ) (e : ℤ) → m * up e * c ≡ a * down e → nearest_whole_of m e ≡ k
  unfolding nearest_whole_of
  nearest_value m e v =
      div_same (2 * (m * up e) + down e) (2 * down e) (2 * a + c) (2 * c) (omega (arith, down_pos e)) (omega arith) (omega arith)
      ∙ sym (nearest_is a c k p l h)

  pub clamped_value : (low high : ℕ) (x : Float) (s : Bool) → k ≤ low → k ≤ high → HasValue x s a c → clamped low high x ≡ cond s (neg_ℤ (pos k)) (pos k)
  unfolding clamped
  clamped_value low high nan s i j v = absurd v
  clamped_value low high (inf t) s i j v = absurd v
  clamped_value low high (fin t m e) s i j v = rw (v.0, nearest_value m e v.1, min-eq_left i, min-eq_left j)

-- the number of smallest subnormals that a finite number's fields stand for
abbrev subnormals : ℕ → ℕ → ℕ
subnormals zero t = t * 2 ^ 0
subnormals (suc x) t = (8388608 + t) * 2 ^ x

fields_value : (s : Bool) (x t : ℕ) → x < 255 → HasValue (of_fields binary32 s x t) s (subnormals x t) (2 ^ 149)
unfolding of_fields
fields_value s zero t h = odd_sign 24 s t 0 149
fields_value s (suc x) t h = rw (ne_eqb (suc x) 255 (λ e. omega arith)) (odd_sign 24 s (8388608 + t) x 149)

word_value : (w : ℕ) → w % 2147483648 < 2139095040 → HasValue (float w) (leb 2147483648 w) (subnormals (w % 2147483648 / 8388608) (w % 8388608)) (2 ^ 149)
unfolding of_bits
word_value w h = fields_value (leb 2147483648 w) (w % 2147483648 / 8388608) (w % 8388608) (omega arith)

-- n smallest subnormals have the pattern n
pub few_value : (n : ℕ) → n < 8388608 → HasValue (float n) false n (2 ^ 149)
few_value n h =
    let x : n % 2147483648 / 8388608 ≡ 0 = omega arith in
    let t : n % 8388608 ≡ n = omega arith in
    rw (lt-leb 2147483648 n (omega arith), x, t, mul-one) at (word_value n (omega arith))

under_half : (x t : ℕ) → x < 126 → t < 8388608 → subnormals x t < 2 ^ 148
under_half zero t h l = lt_of_lt_of_le (shl_lt 23 0 l) (pow_mono {i = 23} {j = 148} (omega arith))
under_half (suc x) t h l = lt_of_lt_of_le (shl_lt {a = 8388608 + t} 24 x (omega arith)) (pow_mono {i = 24 + x} {j = 148} (omega arith))

doubled : (a b c : ℕ) → 2 * b ≡ c → a < b → 2 * a < 2 * (0 * c) + c
doubled a b c e h = omega arith

signless : (s : Bool) → cond s (neg_ℤ (pos 0)) (pos 0) ≡ pos 0
signless true = refl
signless false = refl

-- q times u, against j times u
module _ (q j u c : ℕ) (e : c ≡ j * u) (p : 0 < u) (l : j ≤ 2 * q) (h : 2 * q < 3 * j) where
  at_least : 2 * (1 * c) ≤ 2 * (q * u) + c
  at_least = omega (arith, mul-le-mul_right u l)

  less_than : 2 * (q * u) < 2 * (1 * c) + c
  less_than = omega (arith, mul-lt-mul_of_pos_right h p)

-- 1056964608 is the pattern of 1/2, and 1069547520 that of 3/2
module _ (low high w : ℕ) where
  pub clamped_0 : w % 2147483648 < 1056964608 → clamped low high (float w) ≡ pos 0
  clamped_0 h =
      let n = subnormals (w % 2147483648 / 8388608) (w % 8388608) in
      let b : n < 2 ^ 148 = under_half (w % 2147483648 / 8388608) (w % 8388608) (omega arith) (omega arith) in
      clamped_value 0 n (2 ^ 149) (pow_pos 149) zero-le (doubled n (2 ^ 148) (2 ^ 149) refl b)
      low high (float w) (leb 2147483648 w) zero-le zero-le (word_value w (omega arith))
      ∙ signless (leb 2147483648 w)

  clamped_at : (x j : ℕ) → 1 ≤ low → 1 ≤ high → w % 2147483648 < 2139095040 → w % 2147483648 / 8388608 ≡ suc x → 2 ^ 149 ≡ j * 2 ^ x
      → let q = 8388608 + w % 8388608 in j ≤ 2 * q → 2 * q < 3 * j → clamped low high (float w) ≡ cond (leb 2147483648 w) (negsuc 0) (pos 1)
  clamped_at x j i k b e c l h =
      let q = 8388608 + w % 8388608 in
      clamped_value 1 (q * 2 ^ x) (2 ^ 149) (pow_pos 149) (at_least q j (2 ^ x) (2 ^ 149) c (pow_pos x) l h) (less_than q j (2 ^ x) (2 ^ 149) c (pow_pos x) l h)
      low high (float w) (leb 2147483648 w) i k (rw e at (word_value w b))

  pub clamped_1 : 1 ≤ low → 1 ≤ high → 1056964608 ≤ w % 2147483648 → w % 2147483648 < 1069547520 → clamped low high (float w) ≡ cond (leb 2147483648 w) (negsuc 0) (pos 1)
  clamped_1 i k l h = by (eq-or-lt_of_le {n = 126} {m = w % 2147483648 / 8388608} (omega arith))
    where
      by : (126 ≡ w % 2147483648 / 8388608) ⊎ (126 < w % 2147483648 / 8388608) → clamped low high (float w) ≡ cond (leb 2147483648 w) (negsuc 0) (pos 1)
      by (inl e) = clamped_at 125 16777216 i k (omega arith) (sym e) refl (omega arith) (omega arith)
      by (inr g) = clamped_at 126 8388608 i k (omega arith) (omega arith) refl (omega arith) (omega arith)
