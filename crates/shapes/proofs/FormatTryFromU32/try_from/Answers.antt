-- The table has four formats.
use borrow.Author.Rules.{rules}
use Rattle.shapes.specs.Format.{layouts, known}
use Rattle.shapes.proofs.FormatTryFromU32.try_from.Goals as goal

pub returns-in_default : goal.returns-in_default
unfolding known layouts
returns-in_default c = search rules
