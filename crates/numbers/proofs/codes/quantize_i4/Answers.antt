-- The code is below 16, so that the cast changes nothing.
use Rattle.std.proofs.Common.{arith}
use Rattle.numbers.specs.Code.{code4}
use Rattle.numbers.proofs.CodeLaws.{code4_nibble}
use Rattle.numbers.proofs.codes.quantize_i4.Goals as goal

pub returns : goal.returns
unfolding code4
returns c = omega (arith, c.quantize.ensures, code4_nibble c.args.x c.args.scale)
