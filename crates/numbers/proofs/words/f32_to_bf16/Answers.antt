-- `words::f32_to_bf16` meets its contract: the wrapping sum is the definition's sum, grouped otherwise.
use Rattle.std.proofs.Common.{add_assoc}
use Rattle.numbers.specs.Word.{bf16}
use Rattle.numbers.proofs.words.f32_to_bf16.Goals as goal

pub returns : goal.returns
unfolding bf16
returns c = rw add_assoc
