-- The signed byte is two's complement read, and the product is the definition's own.
use Rattle.std.proofs.Math.Facts.{of_z-to_z}
use Rattle.std.proofs.Common.{w8}
use Rattle.numbers.specs.Code.{read8}
use Rattle.numbers.proofs.codes.dequantize_i8.Goals as goal

pub returns : goal.returns
unfolding read8
returns c = rw (c.cast_signed.ensures, of_z-to_z {w = w8} c.ranges.code)
