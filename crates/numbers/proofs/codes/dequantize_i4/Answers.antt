-- The product is the definition's own.
use Rattle.numbers.specs.Code.{read4}
use Rattle.numbers.proofs.codes.dequantize_i4.Goals as goal

pub returns : goal.returns
unfolding read4
returns c = rw c.less_8.ensures
