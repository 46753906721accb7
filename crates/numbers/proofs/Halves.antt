-- A magnitude up to 128 is rounded by a sum with 2^23, whose pattern ends with the whole number; where a half is left, one more is the nearest.
use Rattle.std.proofs.Common.{◌≡◌, ℕ, ◌+◌, ◌-◌, ◌*◌, ◌%◌, ◌<◌, ◌≤◌, min, Bool, true, false, cond, not, ◌&&◌, T, eqb, ltb, ℤ, pos, negsuc, sym, refl, ap, ◌∙◌, true≢false, mul-le-mul_right, mul_assoc, mul_comm, add-mul, lt_of_mul-lt-mul_right, one-mul, zero-add, mul-one, mul_right_comm, le_of_mul-le-mul_right, arith, ltb-false, ltb-true, eqb-true}
use borrow.Author.Tests.{eqb-false, lt-leb}
use lib.Ieee.{Float, nan, inf, fin, binary32, up, down, units, add, lt, eq, is_nan, of_int, of_bits, to_bits}
use lib.Ieee.Back.{round_whole}
use lib.Ieee.Bits.{nan_bits_is}
use lib.Ieee.Exact.{HasValue}
use lib.Ieee.Fits.{down_pos}
use lib.Ieee.Nearest.{closest}
use Rattle.lists.specs.Chunks.{tab}
use Rattle.numbers.specs.Word.{float, whole}
use Rattle.numbers.specs.Code.{nearest_whole_of, clamped}
use Rattle.numbers.proofs.Patterns.{signed, bare, with_sign, up_to_infinity}
use Rattle.numbers.proofs.Reading.{at_each}
use Rattle.numbers.proofs.Rounding.{Near, nearest_is, whole_is, below_whole, from_whole, round_sum, from_2^23, up_to_128, near}
use Rattle.numbers.proofs.ScaleLaws.{plain, plain_no_nan, units_plain}
use Rattle.numbers.proofs.Signs.{counts}

-- the pattern of a whole number from 2^23 on ends with what is over 2^23
pattern_ends : (n : ℕ) → n < 129 → to_bits binary32 (units binary32 false (8388608 + n) 149) % 256 ≡ n
unfolding tab to_bits units
pattern_ends = at_each 129 0 (λ (n : ℕ). to_bits binary32 (units binary32 false (8388608 + n) 149) % 256) (λ (n : ℕ). n) refl

-- 1056964608 is the pattern of 0.5
and_a_half : (n : ℕ) → n < 129 → add binary32 (whole (pos n)) (float 1056964608) ≡ fin false (2 * n + 1) (negsuc 0)
unfolding tab add of_int of_bits
and_a_half = at_each 129 nan (λ (n : ℕ). add binary32 (whole (pos n)) (float 1056964608)) (λ (n : ℕ). fin false (2 * n + 1) (negsuc 0)) refl

-- a magnitude up to 128, and the whole number nearest to it, halves upwards
pub data Nearest : Float → ℕ → Type 0 where
  finite : (m : ℕ) (e : ℤ) → m * up e ≤ 128 * down e → Nearest (fin false m e) (nearest_whole_of m e)

-- x + 2^23, and what its pattern ends with
abbrev pub raised : Float → Float
raised x = add binary32 x (float 1258291200)

abbrev pub ending : Float → ℕ
ending x = to_bits binary32 (raised x) % 256

-- whether x is a half more than the ending
abbrev pub half_more : Float → Bool
half_more x = eq x (add binary32 (whole (pos (ending x))) (float 1056964608))

and_true : (b : Bool) → b && true ≡ b
and_true true = refl
and_true false = refl

module _ (m : ℕ) (e : ℤ) (h : m * up e ≤ 128 * down e) where
  raised_is : raised (fin false m e) ≡ units binary32 false (closest (m * up e + 8388608 * down e) (down e)) 149
  unfolding add of_bits
  raised_is = simp (mul-one, one-mul) (round_sum (m * up e) (down e) (down_pos e) h)

  ending_near : (ending (fin false m e) < 129) × Near (m * up e) (down e) (ending (fin false m e))
  ending_near =
      let q = closest (m * up e + 8388608 * down e) (down e) in
      let s : q ≡ 8388608 + (q - 8388608) = omega (arith, from_2^23 (m * up e) (down e) (down_pos e) h) in
      let l = up_to_128 (m * up e) (down e) (down_pos e) h (q - 8388608) s in
      rw (raised_is, s, pattern_ends (q - 8388608) l) (l, near (m * up e) (down e) (down_pos e) h (q - 8388608) s)

  halves : half_more (fin false m e) ≡ eqb (2 * (m * up e)) (2 * (ending (fin false m e) * down e) + down e)
  unfolding eq
  halves =
      let n = ending (fin false m e) in
      rw (and_a_half n ending_near.0, and_true, mul_comm (m * up e) 2, mul-one (2 * n + 1), add-mul (2 * n) 1 (down e), mul_assoc 2 n (down e), one-mul)

pub raised_no_nan : {x : Float} {r : ℕ} → Nearest x r → T (not (is_nan (raised x)))
raised_no_nan (finite m e h) = rw (raised_is m e h) (plain_no_nan _ (units_plain _ 149))

pub one_more : {x : Float} {r : ℕ} → Nearest x r → half_more x ≡ true → ending x + 1 ≡ r
unfolding nearest_whole_of
one_more (finite m e h) t =
    let n = ending (fin false m e) in
    let d : 2 * (m * up e) ≡ 2 * (n * down e) + down e = eqb-true _ _ (sym (halves m e h) ∙ t) in
    let s : (n + 1) * down e ≡ n * down e + 1 * down e = add-mul n 1 (down e) in
    nearest_is (m * up e) (down e) (n + 1) (down_pos e) (omega arith) (omega (arith, down_pos e))

pub no_more : {x : Float} {r : ℕ} → Nearest x r → half_more x ≡ false → ending x ≡ r
unfolding nearest_whole_of
no_more (finite m e h) t =
    let n = ending (fin false m e) in
    let k : Near (m * up e) (down e) n = (ending_near m e h).1 in
    let d : (2 * (m * up e) ≡ 2 * (n * down e) + down e) → ⊥ = eqb-false _ _ (sym (halves m e h) ∙ t) in
    nearest_is (m * up e) (down e) n (down_pos e) k.over (omega (arith, k.under))

-- a magnitude clamped to a whole number before the rounding is clamped after it
module _ (most : ℕ) (h : most ≤ 128) where
  is_most : (n : ℕ) (d : ℤ) → n * up d ≡ most * down d → Nearest (fin false n d) (0 + most)
  unfolding nearest_whole_of
  is_most n d v = rw (zero-add, whole_is (n * up d) (down d) most (down_pos d) v) (finite n d (rw v (mul-le-mul_right (down d) h)))

  by_test : (m : ℕ) (e : ℤ) (n : ℕ) (d : ℤ) (b : Bool) → n * up d ≡ most * down d → ltb (m * up e * down d) (most * down e * down d) ≡ b
      → Nearest (cond b (fin false m e) (fin false n d)) (0 + min (nearest_whole_of m e) most)
  unfolding nearest_whole_of
  by_test m e n d true v t =
      let l : m * up e < most * down e = lt_of_mul-lt-mul_right (down d) (ltb-true _ _ t) in
      rw (zero-add, below_whole (m * up e) (down e) most (down_pos e) l) (finite m e (omega (arith, mul-le-mul_right (down e) h)))
  by_test m e n d false v t =
      let l : most * down e ≤ m * up e = le_of_mul-le-mul_right (ltb-false _ _ t) (down_pos d) in
      rw (from_whole (m * up e) (down e) most (down_pos e) l) (is_most n d v)

  pub limited : (x y : Float) → T (plain x) → HasValue y false most 1 → Nearest (cond (lt x y) x y) (counts most x)
  unfolding lt clamped
  limited nan y t v = absurd t
  limited (inf true) y t v = absurd t
  limited (inf false) nan t v = absurd v
  limited (inf false) (inf s) t v = absurd v
  limited (inf false) (fin true n d) t v = absurd (true≢false v.0)
  limited (inf false) (fin false n d) t v = is_most n d (sym (mul-one _) ∙ v.1)
  limited (fin true m e) y t v = absurd t
  limited (fin false m e) nan t v = absurd v
  limited (fin false m e) (inf s) t v = absurd v
  limited (fin false m e) (fin true n d) t v = absurd (true≢false v.0)
  limited (fin false m e) (fin false n d) t v =
      let u : n * up d ≡ most * down d = sym (mul-one _) ∙ v.1 in
      rw (u, mul_right_comm most (down d) (down e)) (by_test m e n d _ u refl)

plain_signed : (v : Float) → T (not (is_nan (signed false v))) → T (plain (signed false v))
unfolding is_nan
plain_signed nan t = t
plain_signed (inf s) t = tt
plain_signed (fin s m e) t = tt

-- the magnitude of a pattern without a sign, clamped to a whole number
pub clamped_before : (b most : ℕ) → b ≤ 2139095040 → most ≤ 128 → let y = whole (pos most) in Nearest (cond (lt (float b) y) (float b) y) (counts most (float b))
unfolding of_int
clamped_before b most l h =
    let n : T (not (is_nan (float b))) = rw (nan_bits_is binary32 b) at (up_to_infinity b (omega arith)) in
    let s : float b ≡ signed false (bare b) = with_sign b ∙ ap (λ (s : Bool). signed s (bare b)) (lt-leb 2147483648 b (omega arith)) in
    limited most h (float b) (whole (pos most)) (rw s (plain_signed (bare b) (rw s at n))) (round_whole binary32 false most (omega arith))
