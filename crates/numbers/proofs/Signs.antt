-- A word without its sign stands for the same magnitude, so the sign and the clamped magnitude give the clamped number.
use Rattle.std.proofs.Common.{◌≡◌, ℕ, zero, suc, ◌+◌, ◌-◌, ◌%◌, ◌<◌, ◌≤◌, min, Bool, true, false, cond, leb, pos, neg_ℤ, refl, zero-add, arith, le-leb}
use lib.Ieee.{Float, nan, inf, fin}
use borrow.Author.Tests.{lt-leb}
use Rattle.numbers.specs.Word.{float}
use Rattle.numbers.specs.Code.{nearest_whole_of, clamped, above}
use Rattle.numbers.proofs.CodeLaws.{clamped-above}
use Rattle.numbers.proofs.Patterns.{signed, bare, with_sign, without_sign}

-- what a magnitude counts when it is clamped up to a whole number
abbrev pub counts : ℕ → Float → ℕ
counts most x = above 0 (clamped 0 most x)

pub counts_up_to : (most : ℕ) (x : Float) → counts most x ≤ most
counts_up_to most x = omega (arith, clamped-above 0 most x)

above_neg : (b n : ℕ) → above b (neg_ℤ (pos n)) ≡ b - n
above_neg b zero = omega arith
above_neg b (suc n) = refl

module _ (low high base : ℕ) where
  clamped_signed : (s : Bool) (v : Float) → let n = counts (cond s low high) (signed false v) in above base (clamped low high (signed s v)) ≡ cond s (base - n) (base + n)
  unfolding clamped
  clamped_signed true nan = omega arith
  clamped_signed false nan = omega arith
  clamped_signed true (inf t) = rw zero-add (above_neg base low)
  clamped_signed false (inf t) = rw zero-add
  clamped_signed true (fin t m e) = rw zero-add (above_neg base (min (nearest_whole_of m e) low))
  clamped_signed false (fin t m e) = rw zero-add

  clamped_at : (b : ℕ) → let s = leb 2147483648 b in let n = counts (cond s low high) (float (b % 2147483648)) in above base (clamped low high (float b)) ≡ cond s (base - n) (base + n)
  clamped_at b = rw (with_sign b, without_sign b) (clamped_signed (leb 2147483648 b) (bare b))

  pub clamped_up : (b : ℕ) → b < 2147483648 → above base (clamped low high (float b)) ≡ base + counts high (float (b % 2147483648))
  clamped_up b t = rw (lt-leb 2147483648 b t) at (clamped_at b)

  pub clamped_down : (b : ℕ) → 2147483648 ≤ b → above base (clamped low high (float b)) ≡ base - counts low (float (b % 2147483648))
  clamped_down b t = rw (le-leb 2147483648 b t) at (clamped_at b)
