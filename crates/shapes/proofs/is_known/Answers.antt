-- A number is a format's or is not known.
use Rattle.shapes.proofs.FormatLaws.{known_if}
use Rattle.shapes.proofs.is_known.Goals as goal

pub returns : goal.returns
returns c = known_if _ _ c.try_from.ensures c.is_ok.ensures.value
