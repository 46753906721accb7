-- A scale: how its test is decided, and that it is never a NaN and never negative, so that its word reads back as it.
use Rattle.std.proofs.Common.{◌≡◌, ℕ, zero, suc, ◌*◌, ◌^◌, ◌<◌, ◌≤◌, Bool, true, false, cond, not, T, ltb, List, [], ◌∷◌, pos, mul-pos, arith}
use lib.Dec.{eqb-suc-zero}
use lib.Ieee.{Float, nan, inf, fin, binary32, up, down, odd, units, round, lt, eq, div, is_nan, of_bits, of_int}
use lib.Ieee.Back.{round_whole}
use lib.Ieee.Bits.{of_bits-to_bits}
use lib.Ieee.Exact.{HasValue}
use lib.Ieee.Fits.{round_is, cond-fits, div-fits, of_int-fits, down_pos}
use Rattle.numbers.specs.Word.{float, word, whole}
use Rattle.numbers.specs.Scale.{magnitude, larger, largest_from, largest, scale_of}
use Rattle.numbers.proofs.Largest.{larger-nan}

-- the largest magnitude m decides between 1.0 and m divided
pub scale_one : (d : ℕ) (run : List ℕ) (m : Float) → m ≡ largest run → eq m (float 0) ≡ true → float 1065353216 ≡ scale_of d run
unfolding scale_of of_bits of_int
scale_one d run m e h = rw (← e, h)

pub scale_divided : (d : ℕ) (run : List ℕ) (m : Float) → m ≡ largest run → eq m (float 0) ≡ false → div binary32 m (whole (pos d)) ≡ scale_of d run
unfolding scale_of of_bits of_int
scale_divided d run m e h = rw (← e, h)

-- neither a NaN nor negative
abbrev pub plain : Float → Bool
plain nan = false
plain (inf s) = not s
plain (fin s m e) = not s

pub plain_no_nan : (x : Float) → T (plain x) → T (not (is_nan x))
unfolding is_nan
plain_no_nan nan t = t
plain_no_nan (inf s) t = tt
plain_no_nan (fin s m e) t = tt

cond_plain : (b : Bool) (x y : Float) → T (plain x) → T (plain y) → T (plain (cond b x y))
cond_plain true x y p q = p
cond_plain false x y p q = q

pub larger_plain : (a x : Float) → T (plain a) → T (plain (larger a (magnitude x)))
unfolding larger magnitude
larger_plain a nan t = rw (larger-nan a) t
larger_plain a (inf s) t = cond_plain (lt a (inf false)) (inf false) a tt t
larger_plain a (fin s m e) t = cond_plain (lt a (fin false m e)) (fin false m e) a tt t

largest_from_plain : (a : Float) (run : List ℕ) → T (plain a) → T (plain (largest_from a run))
unfolding largest_from
largest_from_plain a [] t = t
largest_from_plain a (w ∷ run) t = largest_from_plain (larger a (magnitude (float w))) run (larger_plain a (float w) t)

odd_plain : (d q k l : ℕ) → T (plain (odd d false q k l))
unfolding odd
odd_plain d zero k l = tt
odd_plain d (suc q) k l = tt

pub units_plain : (q k : ℕ) → T (plain (units binary32 false q k))
unfolding units
units_plain q k = cond_plain (ltb (q * 2 ^ k) (2 ^ 277)) (odd 25 false q k 149) (inf false) (odd_plain 25 q k 149) tt

round_plain : (a c : ℕ) → T (plain (round binary32 false a c))
round_plain a c = rw (round_is binary32 false a c) (units_plain _ _)

pub no_product : (u n d : ℕ) → 0 * u * 1 ≡ n * d → 0 < n → 0 < d → ⊥
no_product u n d e h k = omega (arith, mul-pos h k)

-- divided by a whole number above 0, such a float stays one
divided_plain : (x y : Float) (n : ℕ) → 0 < n → HasValue y false n 1 → T (plain x) → T (plain (div binary32 x y))
unfolding div
divided_plain nan y n h v t = absurd t
divided_plain (inf true) y n h v t = absurd t
divided_plain (inf false) nan n h v t = absurd v
divided_plain (inf false) (inf r) n h v t = absurd v
divided_plain (inf false) (fin r m e) n h v t = rw v.0 tt
divided_plain (fin true k d) y n h v t = absurd t
divided_plain (fin false k d) nan n h v t = absurd v
divided_plain (fin false k d) (inf r) n h v t = absurd v
divided_plain (fin false k d) (fin r zero e) n h v t = absurd (no_product (up e) n (down e) v.1 h (down_pos e))
divided_plain (fin false k d) (fin r (suc m) e) n h v t = rw (eqb-suc-zero m, v.0) (round_plain (k * up d * down e) (suc m * up e * down d))

-- a scale is never a NaN and never negative
pub scale_plain : (d : ℕ) (run : List ℕ) → 0 < d → d ≤ 2 ^ 24 → T (plain (scale_of d run))
unfolding scale_of largest of_int
scale_plain d run h k =
    cond_plain (eq (largest run) (whole (pos 0))) (whole (pos 1)) (div binary32 (largest run) (whole (pos d))) tt
    (divided_plain (largest run) (whole (pos d)) d h (round_whole binary32 false d k) (largest_from_plain (whole (pos 0)) run tt))

-- the word of a scale reads back as the scale
pub scale_back : (d : ℕ) (run : List ℕ) → float (word (scale_of d run)) ≡ scale_of d run
unfolding scale_of
scale_back d run =
    of_bits-to_bits binary32 (scale_of d run)
    (cond-fits binary32 (eq (largest run) (whole (pos 0))) (whole (pos 1)) (div binary32 (largest run) (whole (pos d)))
    (of_int-fits binary32 (pos 1))
    (div-fits binary32 (largest run) (whole (pos d))))
