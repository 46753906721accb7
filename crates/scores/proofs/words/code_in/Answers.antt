-- A code is below 16, so that it is a float, and the difference is exact at each byte.
use native.Mathlib.Omega.{arith}
use Rattle.numbers.specs.Code.{less8}
use Rattle.numbers.proofs.Reading.{less-8}
use Rattle.scores.proofs.words.code_in.Goals as goal

pub returns : goal.returns
unfolding less8
returns c = less-8 _ (omega arith)
