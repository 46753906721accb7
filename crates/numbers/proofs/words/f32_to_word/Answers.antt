-- `words::f32_to_word` meets its contract: the NaN is one, and any other float has a word of its own.
use Rattle.std.proofs.Common.{sym, ◌∙◌}
use lib.Ieee.{to_bits}
use Rattle.numbers.proofs.Patterns.{is-nan}
use Rattle.numbers.proofs.words.f32_to_word.Goals as goal

pub returns-then-is_nan : goal.returns-then-is_nan
unfolding to_bits
returns-then-is_nan c = rw (is-nan _ (sym c.is_nan.ensures.value ∙ c.if-is_nan.true))
