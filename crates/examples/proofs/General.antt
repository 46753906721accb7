-- The examples P3 to P7 in general: for which runs, numbers and scales the paper's words hold, in INT8 and in INT4.
use Prim.Native.Nat.{ℕ, zero, suc, ◌^◌, ◌%◌, ◌≤◌, ◌<◌}
use native.Mathlib.Omega.{arith}
use mathlib.Core.Path.{◌≡◌, refl, ap, ◌∙◌}
use mathlib.Core.Logic.{inl}
use mathlib.Core.Bool.{Bool, true, false, cond}
use mathlib.Core.List.{List, [], ◌∷◌}
use borrow.Author.Tests.{lt-leb, le-leb}
use lib.IntN.{ℤ, pos, negsuc, neg_ℤ}
use lib.ListN.{get_or, replicate}
use lib.Ieee.{Float, nan, inf, fin, binary32, unlike, div, mul, of_int, of_bits, to_bits}
use lib.Ieee.Bits.{of_bits-to_bits}
use lib.Ieee.Fits.{div-fits}
use mir.Syntax.{w8}
use mir.Val.{of_z}
use Rattle.numbers.specs.Word.{float, word}
use Rattle.numbers.specs.Kind.{InfWord, BlankWord, AboveZero, BelowZero, All, Any}
use Rattle.numbers.specs.Scale.{largest, scale_of}
use Rattle.numbers.specs.Code.{clamped, above, code8, code4, read8, read4, less8}
use Rattle.numbers.proofs.CodeLaws.{code8-clamped, code4-clamped}
use Rattle.numbers.proofs.KindLaws.{Signed, blank_word, above_word, below_word, blank_clamped, infinite_clamped, zero_clamped, infinite_read8, infinite_read4}
use Rattle.numbers.proofs.RunLaws.{blank_scale, infinite_scale, scale_none, scale_smallest}
use Rattle.numbers.proofs.ValueLaws.{clamped_0, clamped_1}
use Rattle.groups.specs.Group.{packed, unpacked}
use Rattle.groups.proofs.GroupLaws.{packed_alike, unpacked_alike}

-- both codes of a number, in INT8 and in INT4
abbrev pub Codes : ℕ → Float → ℕ → ℕ → Type 0
Codes w scale int8 int4 = (code8 w scale ≡ int8) × (code4 w scale ≡ int4)

-- one fact over the clamp range gives both
both : (w : ℕ) (scale : Float) (z : ℕ → ℕ → ℤ) → ((low high : ℕ) → 1 ≤ low → 1 ≤ high → clamped low high (div binary32 (float w) scale) ≡ z low high)
    → Codes w scale (of_z w8 (z 127 127)) (above 8 (z 8 7))
both w scale z h = (code8-clamped w scale (h 127 127 (omega arith) (omega arith)), code4-clamped w scale (h 8 7 (omega arith) (omega arith)))

-- P3: a run of zeros of either sign and NaNs of any payload and sign, of any length, has the scale 1.0 under every divisor
pub p3 : (divisor : ℕ) (run : List ℕ) → All BlankWord run → scale_of divisor run ≡ float 0x3f80_0000
p3 = blank_scale

-- each of them has the code of 0, under every scale
pub p3_codes : (w : ℕ) (scale : Float) → BlankWord w → Codes w scale 0 8
p3_codes w scale b = both w scale (λ _ _. pos 0) (λ low high _ _. blank_clamped low high (float w) scale (blank_word w b))

blank_at : (run : List ℕ) (i : ℕ) → All BlankWord run → BlankWord (get_or run i 0)
blank_at [] i b = inl refl
blank_at (w ∷ run) zero b = b.0
blank_at (w ∷ run) (suc i) b = blank_at run i b.1

-- a group of them is 16 bytes 88, which read as zeros
pub p3_group : (numbers : List ℕ) → All BlankWord numbers
    → let scale = scale_of 7 numbers in (packed numbers scale ≡ replicate 16 0x88) × (unpacked (packed numbers scale) scale ≡ replicate 32 0)
unfolding read4 less8 mul of_int of_bits to_bits
p3_group numbers b =
    let scale = scale_of 7 numbers in
    let p : packed numbers scale ≡ replicate 16 0x88 = packed_alike numbers scale (λ i. (p3_codes (get_or numbers i 0) scale (blank_at numbers i b)).1) in
    (p, rw (p, p3 7 numbers b) (unpacked_alike (float 0x3f80_0000)))

-- P4: a run with an infinity of either sign has the scale +infinity, whatever its other words are, NaNs too
pub p4 : (divisor : ℕ) (run : List ℕ) → divisor ≤ 2 ^ 24 → Any InfWord run → scale_of divisor run ≡ inf false
p4 = infinite_scale

-- under an infinite scale every word has the code of 0, and that reads as a NaN
pub p4_codes : (w : ℕ) (s : Bool) → Codes w (inf s) 0 8
p4_codes w s = both w (inf s) (λ _ _. pos 0) (λ low high _ _. infinite_clamped low high (float w) s)

pub p4_reads : (s : Bool) → (read8 0 (inf s) ≡ nan) × (read4 8 (inf s) ≡ nan)
p4_reads s = (infinite_read8 s, infinite_read4 s)

-- a group with an infinity is 16 bytes 88, which read as 32 NaNs
pub p4_group : (numbers : List ℕ) → Any InfWord numbers
    → let scale = scale_of 7 numbers in (packed numbers scale ≡ replicate 16 0x88) × (unpacked (packed numbers scale) scale ≡ replicate 32 0x7fc0_0000)
unfolding to_bits
p4_group numbers h =
    let p : packed numbers (inf false) ≡ replicate 16 0x88 = packed_alike numbers (inf false) (λ i. (p4_codes (get_or numbers i 0) false).1) in
    rw (p4 7 numbers (omega arith) h) (p, rw p (unpacked_alike (inf false) ∙ ap (λ x. replicate 32 (word x)) (infinite_read4 false)))

-- P5 and P6: the largest magnitude is n smallest subnormals. The scale is 0 up to 3 of them in INT4 and up to 63 in INT8, and one of them from 4 to 10 and from 64 to 190
module _ (run : List ℕ) (n : ℕ) (l : largest run ≡ float n) where
  pub p5 : (1 ≤ n → n ≤ 3 → scale_of 7 run ≡ float 0) × (4 ≤ n → n ≤ 10 → scale_of 7 run ≡ float 1)
  p5 = (
    (λ a b. scale_none 7 n run (omega arith) (omega arith) a (omega arith) l (omega arith)),
    (λ a b. scale_smallest 7 n run (omega arith) (omega arith) (omega arith) (omega arith) l (omega arith) (omega arith)),
  )

  pub p6 : (1 ≤ n → n ≤ 63 → scale_of 127 run ≡ float 0) × (64 ≤ n → n ≤ 190 → scale_of 127 run ≡ float 1)
  p6 = (
    (λ a b. scale_none 127 n run (omega arith) (omega arith) a (omega arith) l (omega arith)),
    (λ a b. scale_smallest 127 n run (omega arith) (omega arith) (omega arith) (omega arith) l (omega arith) (omega arith)),
  )

-- under the scale 0.0 a number above 0, finite or infinite, has the highest code, and one below 0 the lowest; under -0.0, which no run has, they change places
abbrev end : Bool → ℕ → ℕ → ℤ
end negative low high = cond negative (neg_ℤ (pos low)) (pos high)

ends : (w : ℕ) (s t : Bool) → Signed s (float w) → Codes w (fin t 0 (pos 0)) (of_z w8 (end (unlike s t) 127 127)) (above 8 (end (unlike s t) 8 7))
ends w s t n = both w (fin t 0 (pos 0)) (end (unlike s t)) (λ low high _ _. zero_clamped low high (float w) s t (pos 0) n)

pub p5_above : (w : ℕ) → AboveZero w → Codes w (float 0) 0x7f 15 × Codes w (float 0x8000_0000) 0x81 0
unfolding of_bits
p5_above w h = (ends w false false (above_word w h), ends w false true (above_word w h))

pub p5_below : (w : ℕ) → BelowZero w → Codes w (float 0) 0x81 0 × Codes w (float 0x8000_0000) 0x7f 15
unfolding of_bits
p5_below w h = (ends w true false (below_word w h), ends w true true (below_word w h))

-- P7: by the bits of the quotient
module _ (w : ℕ) (scale : Float) (q : ℕ) (e : word (div binary32 (float w) scale) ≡ q) where
  quotient : float q ≡ div binary32 (float w) scale
  quotient = rw (← e) (of_bits-to_bits binary32 (div binary32 (float w) scale) (div-fits binary32 (float w) scale))

  -- below those of 0.5, of either sign, it gives 0
  pub p7_0 : q % 0x8000_0000 ≤ 0x3eff_ffff → Codes w scale 0 8
  p7_0 h = both w scale (λ _ _. pos 0) (λ low high _ _. rw quotient at (clamped_0 low high q (omega arith)))

  -- from those of 0.5 on and below those of 1.5 it gives 1, and -1 with the sign
  pub p7_1 : 0x3f00_0000 ≤ q → q < 0x3fc0_0000 → Codes w scale 1 9
  p7_1 l h = both w scale (λ _ _. pos 1) (λ low high i j. rw (quotient, lt-leb 2147483648 q (omega arith)) at (clamped_1 low high q i j (omega arith) (omega arith)))

  pub p7_minus_1 : 0xbf00_0000 ≤ q → q < 0xbfc0_0000 → Codes w scale 0xff 7
  p7_minus_1 l h = both w scale (λ _ _. negsuc 0) (λ low high i j. rw (quotient, le-leb 2147483648 q (omega arith)) at (clamped_1 low high q i j (omega arith) (omega arith)))
