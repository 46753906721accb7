-- `words::word_to_f32` meets its contract: past the infinity's pattern, without its sign, a word is a NaN's, and only there.
use lib.Ieee.{div, of_bits}
use Rattle.numbers.proofs.Patterns.{above_infinity, up_to_infinity}
use Rattle.numbers.proofs.words.word_to_f32.Goals as goal

pub float_from_bits-result : goal.float_from_bits-result
float_from_bits-result c = up_to_infinity _ c.if-w-gt2139095040.false

pub returns-then-w-gt2139095040 : goal.returns-then-w-gt2139095040
unfolding div of_bits
returns-then-w-gt2139095040 c = rw (above_infinity _ c.if-w-gt2139095040.true)
