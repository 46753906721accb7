-- The whole number nearest to a fraction, halves upwards, and that 2^23 and a fraction more are rounded to a whole number at most a half away.
use Rattle.std.proofs.Common.{◌≡◌, ℕ, suc, ◌+◌, ◌-◌, ◌*◌, ◌/◌, ◌%◌, ◌^◌, ◌<◌, ◌≤◌, min, false, not, T, sym, ap, ◌∙◌, lt_of_lt_of_le, mul-le-mul_right, mod-lt, mul_assoc, suc-mul, mul_comm, div-lt_iff_lt-mul, add-mul, mul-lt-mul_of_pos_right, mul-pos, lt_of_not-le, div-add-mod', le-div_iff_mul-le, mul_right_comm, not-le_of_lt, mul_left_comm, arith, eqb→eq, leb→le, pow_pos, pow_mono}
use Prim.Native.Nat.{compare, Ordering}
use native.Mathlib.Nat.{div-eq_of_lt-le}
use lib.Dec.{is_le, compare_is_eq, nleb→lt}
use lib.Ieee.{binary32, size, nearest, units, round}
use lib.Ieee.Digits.{size-lt, size-le}
use lib.Ieee.Fits.{core, round_is}
use lib.Ieee.Nearest.{closest, closest_same, closest_mono}

-- n is at most a half away from a / c
pub record Near (a c n : ℕ) : Type 0 where
  pub over : 2 * (n * c) ≤ 2 * a + c
  pub under : 2 * a ≤ 2 * (n * c) + c

nearest_near : (q r c : ℕ) → r < c → Near (q * c + r) c (nearest q (compare (r * 2) c))
nearest_near q r c l = by (compare (r * 2) c) (leb→le (r * 2) c) (nleb→lt (r * 2) c) (eqb→eq (r * 2) c)
  where
    by : (o : Ordering) → (T (is_le o) → r * 2 ≤ c) → (T (not (is_le o)) → c < r * 2) → (T (compare_is_eq o) → r * 2 ≡ c) → Near (q * c + r) c (nearest q o)
    by Ordering.lt le gt eq = let h : r * 2 ≤ c = le tt in record { over = omega arith; under = omega arith }
    by Ordering.eq le gt eq =
        let h : r * 2 ≡ c = eq tt in
        let t : q % 2 * c ≤ 1 * c = mul-le-mul_right c (omega arith) in
        record { over = rw (add-mul q (q % 2) c) (omega arith); under = rw (add-mul q (q % 2) c) (omega arith) }
    by Ordering.gt le gt eq = let h : c < r * 2 = gt tt in record { over = rw (suc-mul q c) (omega arith); under = rw (suc-mul q c) (omega arith) }

pub closest_near : (a c : ℕ) → 0 < c → Near a c (closest a c)
closest_near a c p = rw (div-add-mod' a c) at (nearest_near (a / c) (a % c) c (mod-lt a p))

-- the whole number nearest to a / c, halves upwards, against a whole number k
module _ (a c k : ℕ) (p : 0 < c) where
  pub nearest_is : 2 * (k * c) ≤ 2 * a + c → 2 * a < 2 * (k * c) + c → k ≡ (2 * a + c) / (2 * c)
  nearest_is l h = sym (div-eq_of_lt-le (2 * c) (rw (mul_left_comm k 2 c) (omega arith)) (rw (add-mul k 1 (2 * c), mul_left_comm k 2 c) (omega arith)))

  pub whole_is : a ≡ k * c → k ≡ (2 * a + c) / (2 * c)
  whole_is e = nearest_is (omega arith) (omega arith)

  pub below_whole : a < k * c → min ((2 * a + c) / (2 * c)) k ≡ (2 * a + c) / (2 * c)
  below_whole h =
      let s : (k + 1) * (2 * c) ≡ k * (2 * c) + 1 * (2 * c) = add-mul k 1 (2 * c) in
      let t : k * (2 * c) ≡ 2 * (k * c) = mul_left_comm k 2 c in
      let q : (2 * a + c) / (2 * c) < k + 1 = (div-lt_iff_lt-mul {k = 2 * c} (omega arith)).1 (omega arith) in
      omega arith

  pub from_whole : k * c ≤ a → min ((2 * a + c) / (2 * c)) k ≡ k
  from_whole h =
      let t : k * (2 * c) ≡ 2 * (k * c) = mul_left_comm k 2 c in
      let q : k ≤ (2 * a + c) / (2 * c) = (le-div_iff_mul-le {k = 2 * c} (omega arith)).1 (omega arith) in
      omega arith

size_is : (n j : ℕ) → 2 ^ j ≤ n → n < 2 ^ suc j → size n ≡ suc j
size_is n j l h =
    let a : size n ≤ suc j = size-le n (suc j) h in
    let b : j < size n = lt_of_not-le (λ g. not-le_of_lt (lt_of_lt_of_le (size-lt n) (pow_mono g)) l) in
    omega arith

-- 2^23 and a / c more, in units of which u are 1
module _ (a c u : ℕ) (p : 0 < c) (U : 0 < u) (h : a ≤ 128 * c) where
  at_least : 8388608 * u ≤ (a + 8388608 * c) * u / c
  at_least = (le-div_iff_mul-le p).1 (rw (mul_right_comm 8388608 u c) (mul-le-mul_right u (omega arith)))

  less_than : (a + 8388608 * c) * u / c < 16777216 * u
  less_than = (div-lt_iff_lt-mul p).1 (rw (mul_right_comm 16777216 u c) (mul-lt-mul_of_pos_right (omega arith) U))

module _ (a c : ℕ) (p : 0 < c) (h : a ≤ 128 * c) where
  digits : size ((a + 8388608 * c) * 2 ^ 149 / c) ≡ 173
  digits = size_is _ 172 (at_least a c (2 ^ 149) p (pow_pos 149) h) (less_than a c (2 ^ 149) p (pow_pos 149) h)

  pub round_sum : round binary32 false (a + 8388608 * c) c ≡ units binary32 false (closest (a + 8388608 * c) c) 149
  round_sum =
      round_is binary32 false (a + 8388608 * c) c
      ∙ ap (λ (z : ℕ). core binary32 false ((a + 8388608 * c) * 2 ^ 149) c (z - 24)) digits
      ∙ ap (λ (q : ℕ). units binary32 false q 149)
      (closest_same ((a + 8388608 * c) * 2 ^ 149) (c * 2 ^ 149) (a + 8388608 * c) c (mul-pos p (pow_pos 149)) p
      (rw (mul_assoc (a + 8388608 * c) (2 ^ 149) c, mul_comm (2 ^ 149) c)))

  -- it is 2^23 and a whole number n up to 128 more
  pub from_2^23 : 8388608 ≤ closest (a + 8388608 * c) c
  from_2^23 = closest_mono 8388608 1 (a + 8388608 * c) c (omega arith) p (omega arith)

  pub up_to_128 : (n : ℕ) → closest (a + 8388608 * c) c ≡ 8388608 + n → n < 129
  up_to_128 n e = omega (arith, closest_mono (a + 8388608 * c) c 8388736 1 p (omega arith) (omega arith))

  pub near : (n : ℕ) → closest (a + 8388608 * c) c ≡ 8388608 + n → Near a c n
  near n e =
      let k : Near (a + 8388608 * c) c (8388608 + n) = rw e at (closest_near (a + 8388608 * c) c p) in
      let f : (8388608 + n) * c ≡ 8388608 * c + n * c = add-mul 8388608 n c in
      record { over = omega (arith, k.over); under = omega (arith, k.under) }
