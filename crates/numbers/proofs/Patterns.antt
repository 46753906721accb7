-- Which words and floats are a NaN, and how a word parts into its sign and its magnitude.
use Rattle.std.proofs.Common.{◌≡◌, ℕ, zero, suc, ◌+◌, ◌/◌, ◌%◌, ◌<◌, ◌≤◌, Bool, true, false, cond, not, T, eqb, leb, sym, refl, ap, ◌∙◌, mod-eq_of_lt, arith, ltb-false, le-ltb, lt-ltb}
use borrow.Author.Tests.{lt-leb}
use lib.Ieee.{Float, nan, inf, fin, binary32, is_nan, nan_bits, odd, of_fields, of_bits, fits}
use lib.Ieee.Bits.{is_false, of_bits-to_bits, nan_bits_is, nan_bits_above}
use Rattle.numbers.specs.Word.{float, word}

-- only the NaN is one
pub is-nan : (x : Float) → is_nan x ≡ true → x ≡ nan
unfolding is_nan
is-nan nan h = refl
is-nan (inf s) h = cc
is-nan (fin s m e) h = cc

-- past the infinity's pattern, without its sign, a word is a NaN's, and only there
pub above_infinity : (w : ℕ) → 2139095040 < w % 2147483648 → float w ≡ nan
above_infinity w h = is-nan (float w) (sym (nan_bits_is binary32 w) ∙ nan_bits_above binary32 w ∙ lt-ltb _ _ h)

pub up_to_infinity : (w : ℕ) → w % 2147483648 ≤ 2139095040 → T (not (nan_bits binary32 w))
up_to_infinity w h = rw (nan_bits_above binary32 w, le-ltb _ _ h) tt

pub word_up_to_infinity : (x : Float) → T (fits binary32 x) → T (not (is_nan x)) → word x % 2147483648 ≤ 2139095040
word_up_to_infinity x f n =
    ltb-false 2139095040 (word x % 2147483648)
    (sym (nan_bits_above binary32 (word x)) ∙ nan_bits_is binary32 (word x) ∙ ap is_nan (of_bits-to_bits binary32 x f) ∙ is_false (is_nan x) n)

-- a float with another sign
abbrev pub signed : Bool → Float → Float
signed s nan = nan
signed s (inf t) = inf s
signed s (fin t m e) = fin s m e

odd_signed : (s : Bool) (d q k l : ℕ) → odd d s q k l ≡ signed s (odd d false q k l)
unfolding odd
odd_signed s d zero k l = refl
odd_signed s d (suc q) k l = refl

fields_signed : (s : Bool) (x t : ℕ) → of_fields binary32 s x t ≡ signed s (of_fields binary32 false x t)
unfolding of_fields
fields_signed s zero t = odd_signed s 24 t 0 149
fields_signed s (suc x) t = by (eqb (suc x) 255) (eqb t 0)
  where
    by : (a b : Bool) → cond a (cond b (inf s) nan) (odd 24 s (8388608 + t) x 149) ≡ signed s (cond a (cond b (inf false) nan) (odd 24 false (8388608 + t) x 149))
    by true true = refl
    by true false = refl
    by false b = odd_signed s 24 (8388608 + t) x 149

-- the fields of a word without a sign
fields : (w : ℕ) → w < 2147483648 → float w ≡ of_fields binary32 false (w / 8388608) (w % 8388608)
unfolding of_bits
fields w h = rw (lt-leb 2147483648 w h, mod-eq_of_lt h)

-- the magnitude that a word's exponent and digits stand for
abbrev pub bare : ℕ → Float
bare w = of_fields binary32 false (w % 2147483648 / 8388608) (w % 8388608)

pub with_sign : (w : ℕ) → float w ≡ signed (leb 2147483648 w) (bare w)
unfolding of_bits
with_sign w = fields_signed (leb 2147483648 w) (w % 2147483648 / 8388608) (w % 8388608)

pub without_sign : (w : ℕ) → float (w % 2147483648) ≡ signed false (bare w)
without_sign w =
    let d : w % 2147483648 % 8388608 ≡ w % 8388608 = omega arith in
    fields (w % 2147483648) (omega arith) ∙ rw d (fields_signed false (w % 2147483648 / 8388608) (w % 8388608))
