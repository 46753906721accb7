-- The clamped quotient comes back from its pattern, whose sign and magnitude give the code; a NaN's code is `zero`.
use Rattle.std.proofs.Common.{◌≡◌, ℕ, ◌+◌, ◌-◌, ◌%◌, ◌≤◌, true, false, not, T, ◌⊎◌, inl, inr, refl, sym, ◌∙◌, arith}
use lib.Ieee.{Float, binary32, to_bits, is_nan, fits}
use lib.Ieee.Bits.{of_bits-to_bits}
use lib.Ieee.Fits.{div-fits}
use Rattle.numbers.specs.Word.{float}
use Rattle.numbers.specs.Code.{clamped, above}
use Rattle.numbers.proofs.Patterns.{is-nan, word_up_to_infinity}
use Rattle.numbers.proofs.Quotients.{topped, topped_fits, topped_no_nan, topped_clamped}
use Rattle.numbers.proofs.Signs.{counts, counts_up_to, clamped_up, clamped_down}
use Rattle.numbers.proofs.codes.quantize.Goals as goal
use Rattle.numbers.proofs.codes.quantize.Goals.{then-is_nan, else-is_nan}

-- a quotient q that is cut at an end up to 128, as x, is a number of 32 bits
module _ (end : ℕ) (q x : Float) (l : end ≤ 128) (e : x ≡ topped end q) where
  is_number : T (not (is_nan x))
  is_number = rw e (topped_no_nan end l q)

  in_range : T (fits binary32 q) → T (fits binary32 x)
  in_range f = rw e (topped_fits end q f)

module _ (low high zero : ℕ) (q x : Float) (l : low ≤ 128) (h : high ≤ low) (e : x ≡ topped high q) where
  code_is : T (fits binary32 q) → T (not (is_nan q)) → above zero (clamped low low (float (to_bits binary32 x))) ≡ above zero (clamped low high q)
  code_is f n =
      let back : float (to_bits binary32 x) ≡ topped high q = of_bits-to_bits binary32 x (in_range high q x (omega arith) e f) ∙ e in
      rw (back, topped_clamped low high h l q n)

  -- a NaN counts nothing, and what is not one counts as its magnitude does
  counted : (f : ℕ → ℕ) (m n : ℕ) → T (fits binary32 q) → n ≡ counts low (float (to_bits binary32 x % 2147483648)) → f 0 ≡ zero + 0
      → above zero (clamped low low (float (to_bits binary32 x))) ≡ f (counts low (float (to_bits binary32 x % 2147483648)))
      → (is_nan q ≡ true) × (m ≡ 0) ⊎ (is_nan q ≡ false) × (m ≡ n) → f m ≡ above zero (clamped low high q)
  unfolding clamped
  counted f m n t k z u (inl w) = rw (w.1, z, is-nan q w.0)
  counted f m n t k z u (inr w) = rw (w.1, k, ← u) (code_is t (rw w.0 tt))

-- what is counted is no more than the magnitude's end, or than a NaN's count
few : (low most m k n : ℕ) (x : Float) → n ≡ counts low x → low ≤ most → k ≤ most → (m ≡ k) ⊎ (m ≡ n) → m ≤ most
few low most m k n x e l z (inl w) = omega arith
few low most m k n x e l z (inr w) = omega (arith, counts_up_to low x)

pub float_to_bits-bits : goal.float_to_bits-bits
float_to_bits-bits c = is_number _ _ _ (omega arith) c.smaller-bits.ensures

pub nearest_whole-n-requires : goal.nearest_whole-n-requires
nearest_whole-n-requires c =
    (word_up_to_infinity _ (in_range _ _ _ (omega arith) c.smaller-bits.ensures (div-fits binary32 _ _)) (is_number _ _ _ (omega arith) c.smaller-bits.ensures), omega arith)

pub overflow_add-result : goal.overflow_add-result
overflow_add-result c =
    let m : c.if-is_nan.m ≤ 128 = few c.args.low 128 _ _ _ _ c.nearest_whole-n.ensures (omega arith) (omega arith) (elim c.if-is_nan.branch [ then-is_nan w ↦ inl w.m-is | else-is_nan w ↦ inr w.m-is ]) in
    record { fits = omega arith }

pub overflow_sub-result : goal.overflow_sub-result
overflow_sub-result c =
    let m : c.if-is_nan.m ≤ c.args.low = few c.args.low c.args.low _ _ _ _ c.nearest_whole-n.ensures (omega arith) (omega arith) (elim c.if-is_nan.branch [ then-is_nan w ↦ inl w.m-is | else-is_nan w ↦ inr w.m-is ]) in
    omega arith

pub returns-then-positive : goal.returns-then-positive
returns-then-positive c =
    let a = c.args in
    rw (← c.word_to_f32.ensures)
    (counted a.low a.high a.zero _ c.smaller-bits.result c.requires.0 c.requires.1 c.smaller-bits.ensures (λ (n : ℕ). a.zero + n) c.if-is_nan.m c.nearest_whole-n.result
    (div-fits binary32 _ _) c.nearest_whole-n.ensures refl (clamped_up a.low a.low a.zero _ c.if-positive.true)
    (elim c.if-is_nan.branch [ then-is_nan w ↦ inl (sym c.is_nan.ensures.value ∙ w.if-is_nan.true, w.m-is) | else-is_nan w ↦ inr (sym c.is_nan.ensures.value ∙ w.if-is_nan.false, w.m-is) ]))

pub returns-else-positive : goal.returns-else-positive
returns-else-positive c =
    let a = c.args in
    rw (← c.word_to_f32.ensures)
    (counted a.low a.high a.zero _ c.smaller-bits.result c.requires.0 c.requires.1 c.smaller-bits.ensures (λ (n : ℕ). a.zero - n) c.if-is_nan.m c.nearest_whole-n.result
    (div-fits binary32 _ _) c.nearest_whole-n.ensures (omega arith) (clamped_down a.low a.low a.zero _ c.if-positive.false)
    (elim c.if-is_nan.branch [ then-is_nan w ↦ inl (sym c.is_nan.ensures.value ∙ w.if-is_nan.true, w.m-is) | else-is_nan w ↦ inr (sym c.is_nan.ensures.value ∙ w.if-is_nan.false, w.m-is) ]))
