-- The code of one number under a scale, and what a code reads as: the paper's Code of a number and Reading, under Codes.
use Rattle.std.specs.Prelude.{ℕ, suc, ◌+◌, ◌-◌, ◌*◌, ◌/◌, min, cond, ℤ, pos, negsuc, neg_ℤ, Float}
use Rattle.std.specs.Float.{nan, inf, fin, binary32}
use Rattle.std.specs.Float.Ieee.{up, down, minus, div, mul}
use Rattle.std.proofs.Common.{of_z, to_z}
use Rattle.std.specs.Int.{w8}
use Rattle.numbers.specs.Word.{float, whole}

-- the whole number nearest to m·2^e, a half counting upwards: the whole part of m·2^e + 1/2
unfoldable pub nearest_whole_of : ℕ → ℤ → ℕ
nearest_whole_of m e = (2 * (m * up e) + down e) / (2 * down e)

-- a quotient rounded to the nearest whole number, halves away from zero, then clamped to -low .. high; a NaN gives 0
unfoldable pub clamped : ℕ → ℕ → Float → ℤ
clamped low high nan = pos 0
clamped low high (inf s) = cond s (neg_ℤ (pos low)) (pos high)
clamped low high (fin s m e) = cond s (neg_ℤ (pos (min (nearest_whole_of m e) low))) (pos (min (nearest_whole_of m e) high))

-- b + z, for a z that is not below -b
abbrev pub above : ℕ → ℤ → ℕ
above b (pos n) = b + n
above b (negsuc n) = b - suc n

-- INT8: -127 .. 127 in two's complement
unfoldable pub code8 : ℕ → Float → ℕ
code8 w scale = of_z w8 (clamped 127 127 (div binary32 (float w) scale))

-- INT4: -8 .. 7, and 8 added
unfoldable pub code4 : ℕ → Float → ℕ
code4 w scale = above 8 (clamped 8 7 (div binary32 (float w) scale))

-- a stored INT8 byte read: code × scale, rounded once
unfoldable pub read8 : ℕ → Float → Float
read8 code scale = mul binary32 (whole (to_z w8 code)) scale

-- a stored INT4 code less 8, and read: (code − 8) × scale, rounded once
unfoldable pub less8 : ℕ → Float
less8 code = whole (minus code 8)

unfoldable pub read4 : ℕ → Float → Float
read4 code scale = mul binary32 (less8 code) scale
