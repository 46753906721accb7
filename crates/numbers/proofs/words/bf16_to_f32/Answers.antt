-- `words::bf16_to_f32` meets its contract: the product is the definition's own.
use Rattle.std.proofs.Common.{refl}
use Rattle.numbers.specs.Word.{from_bf16}
use Rattle.numbers.proofs.words.bf16_to_f32.Goals as goal

pub returns : goal.returns
unfolding from_bf16
returns c = refl
