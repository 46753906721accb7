-- A quotient is clamped to the upper end as a float. The other end is no nearer to 0, so it clamps the magnitude of either sign.
use Rattle.std.proofs.Common.{◌≡◌, ℕ, ◌+◌, ◌*◌, ◌≤◌, Bool, true, false, cond, not, T, ltb, ℤ, pos, sym, refl, ◌∙◌, true≢false, zero-add, le_of_mul-le-mul_right, arith, ltb-false}
use native.Mathlib.Nat.{zero-min, min-eq_left}
use lib.Ieee.{Float, nan, inf, fin, binary32, up, down, lt, is_nan, of_int, fits}
use lib.Ieee.Back.{round_whole}
use lib.Ieee.Exact.{HasValue}
use lib.Ieee.Fits.{down_pos, cond-fits, of_int-fits}
use Rattle.numbers.specs.Word.{whole}
use Rattle.numbers.specs.Code.{nearest_whole_of, clamped}
use Rattle.numbers.proofs.Halves.{Nearest, finite, limited}
use Rattle.numbers.proofs.Rounding.{whole_is}
use Rattle.numbers.proofs.ScaleLaws.{plain}
use Rattle.numbers.proofs.Signs.{counts, counts_up_to}

cond_no_nan : (b : Bool) (x y : Float) → T (not (is_nan x)) → T (not (is_nan y)) → T (not (is_nan (cond b x y)))
cond_no_nan true x y p q = p
cond_no_nan false x y p q = q

-- a NaN is not below anything
smaller_no_nan : (x y : Float) → T (not (is_nan y)) → T (not (is_nan (cond (lt x y) x y)))
unfolding lt is_nan
smaller_no_nan nan y n = n
smaller_no_nan (inf s) y n = cond_no_nan (lt (inf s) y) (inf s) y tt n
smaller_no_nan (fin s m e) y n = cond_no_nan (lt (fin s m e) y) (fin s m e) y tt n

-- 0 in parts of another size
no_parts : (m : ℕ) (e d : ℤ) → m * up e * down d ≤ 0 → nearest_whole_of m e ≡ 0
unfolding nearest_whole_of
no_parts m e d h =
    let l : m * up e * down d ≤ 0 * down d = omega arith in
    let z : m * up e ≤ 0 = le_of_mul-le-mul_right l (down_pos d) in
    sym (whole_is (m * up e) (down e) 0 (down_pos e) (omega arith))

module _ (low high : ℕ) (h : high ≤ low) (k : low ≤ 128) where
  nearest_clamped : {x : Float} {r : ℕ} → Nearest x r → r ≤ low → clamped low low x ≡ pos r
  unfolding clamped
  nearest_clamped (finite m e l) g = rw (min-eq_left g)

  plain_clamped : (x : Float) → T (plain x) → clamped low high x ≡ pos (counts high x)
  unfolding clamped
  plain_clamped nan t = absurd t
  plain_clamped (inf true) t = absurd t
  plain_clamped (inf false) t = rw zero-add
  plain_clamped (fin true m e) t = absurd t
  plain_clamped (fin false m e) t = rw zero-add

  from_zero : (x y : Float) → T (plain x) → HasValue y false high 1 → clamped low low (cond (lt x y) x y) ≡ clamped low high x
  from_zero x y t v = nearest_clamped (limited high (omega arith) x y t v) (omega (arith, counts_up_to high x)) ∙ sym (plain_clamped x t)

  -- not below the end are zeros alone, and then the end is 0
  by_test : (m : ℕ) (e : ℤ) (n : ℕ) (d : ℤ) (b : Bool) → ltb 0 (m * up e * down d + n * up d * down e) ≡ b
      → clamped low low (cond b (fin true m e) (fin false n d)) ≡ clamped low high (fin true m e)
  unfolding clamped
  by_test m e n d true t = refl
  by_test m e n d false t =
      let z = ltb-false 0 (m * up e * down d + n * up d * down e) t in
      rw (no_parts m e d (omega arith), no_parts n d e (omega arith), zero-min)

  at_value : (x y : Float) → T (not (is_nan x)) → HasValue y false high 1 → clamped low low (cond (lt x y) x y) ≡ clamped low high x
  unfolding lt clamped is_nan
  at_value nan y t v = absurd t
  at_value (inf false) y t v = from_zero (inf false) y tt v
  at_value (fin false m e) y t v = from_zero (fin false m e) y tt v
  at_value (inf true) nan t v = absurd v
  at_value (inf true) (inf s) t v = absurd v
  at_value (inf true) (fin s n d) t v = refl
  at_value (fin true m e) nan t v = absurd v
  at_value (fin true m e) (inf s) t v = absurd v
  at_value (fin true m e) (fin true n d) t v = absurd (true≢false v.0)
  at_value (fin true m e) (fin false n d) t v = by_test m e n d _ refl

-- a quotient, and the upper end where it is not below that
abbrev pub topped : ℕ → Float → Float
topped high q = cond (lt q (whole (pos high))) q (whole (pos high))

pub topped_fits : (high : ℕ) (q : Float) → T (fits binary32 q) → T (fits binary32 (topped high q))
topped_fits high q f = cond-fits binary32 (lt q (whole (pos high))) q (whole (pos high)) f (of_int-fits binary32 (pos high))

value_no_nan : (n : ℕ) (y : Float) → HasValue y false n 1 → T (not (is_nan y))
unfolding is_nan
value_no_nan n nan v = v
value_no_nan n (inf s) v = tt
value_no_nan n (fin s m e) v = tt

whole_value : (n : ℕ) → n ≤ 128 → HasValue (whole (pos n)) false n 1
unfolding of_int
whole_value n h = round_whole binary32 false n (omega arith)

pub topped_no_nan : (high : ℕ) → high ≤ 128 → (q : Float) → T (not (is_nan (topped high q)))
topped_no_nan high h q = smaller_no_nan q (whole (pos high)) (value_no_nan high (whole (pos high)) (whole_value high h))

pub topped_clamped : (low high : ℕ) → high ≤ low → low ≤ 128 → (q : Float) → T (not (is_nan q)) → clamped low low (topped high q) ≡ clamped low high q
topped_clamped low high h k q t = at_value low high h k q (whole (pos high)) t (whole_value high (omega arith))
