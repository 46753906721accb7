-- Words of 32 bits and the floats that they stand for, and BF16: IEEE 754 binary32, and the paper's BF16, under Codes.
use Rattle.std.specs.Prelude.{ℕ, ◌+◌, ◌*◌, ◌/◌, ◌%◌, ◌^◌, ℤ, from_bits, to_bits, Float}
use Rattle.std.specs.Float.{binary32}
use Rattle.std.specs.Float.Ieee.{of_int}

-- the float of a word; every NaN pattern is the one nan
abbrev pub float : ℕ → Float
float w = from_bits binary32 w

-- the word of a float; a NaN's is 7FC00000
abbrev pub word : Float → ℕ
word x = to_bits binary32 x

-- a whole number as a float
abbrev pub whole : ℤ → Float
whole z = of_int binary32 z

-- the pattern plus 32,767 plus the pattern's bit 16, modulo 2^32; of that the upper 16 bits
unfoldable pub bf16 : ℕ → ℕ
bf16 w = (w + 32767 + w / 2 ^ 16 % 2) % 2 ^ 32 / 2 ^ 16

-- 16 zero bits below
unfoldable pub from_bf16 : ℕ → ℕ
from_bf16 h = h * 2 ^ 16
