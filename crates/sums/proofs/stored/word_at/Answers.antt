-- The word is chunk d of the cells.
use mathlib.Core.Path.{◌∙◌}
use native.Mathlib.Omega.{arith}
use Rattle.decode.proofs.DecodeLaws.{number_at}
use Rattle.sums.proofs.stored.word_at.Goals as goal

pub returns : goal.returns
returns c = c.from_le_bytes.ensures ∙ number_at 3 c.args.d c.args.cells.now c.as_chunks.ensures.front (omega arith)
