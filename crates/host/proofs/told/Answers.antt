-- The answer's number beside its count, and no count where it is refused.
use mathlib.Core.Path.{refl}
use Rattle.host.proofs.WordLaws.{as_told, counted_told}
use Rattle.host.proofs.told.Goals as goal

pub returns : goal.returns
returns c = as_told c.number.ensures refl (counted_told c.args.answer c.unwrap_or.ensures)
