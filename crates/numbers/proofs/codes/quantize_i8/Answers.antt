-- 256 added and taken off again is two's complement.
use Rattle.numbers.proofs.CodeLaws.{code8_wraps}
use Rattle.numbers.proofs.codes.quantize_i8.Goals as goal

pub returns : goal.returns
returns c = rw c.quantize.ensures (code8_wraps c.args.x c.args.scale)
