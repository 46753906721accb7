-- At the end there is no line, and none is laid.
use Rattle.printing.proofs.LaidLaws.{laid_none}
use Rattle.replay.proofs.lines.line_text.Goals as goal

pub returns-in-Nothing : goal.returns-in-Nothing
returns-in-Nothing c = rw c.in-Nothing.is (laid_none _ _)
