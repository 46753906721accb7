-- The difference is exact at each byte.
use Rattle.numbers.specs.Code.{less8}
use Rattle.numbers.proofs.Reading.{less-8}
use Rattle.numbers.proofs.codes.less_8.Goals as goal

pub returns : goal.returns
unfolding less8
returns c = less-8 c.args.code c.ranges.code.fits
