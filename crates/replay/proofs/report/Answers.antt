-- The byte count, or its refusal, tells which line it is.
use Rattle.replies.proofs.Tested.{not_done}
use borrow.Author.Tests.{ne_eqb}
use Rattle.replay.specs.Step.{report_of}
use Rattle.replay.proofs.report.Goals as goal

pub returns-in-Ok : goal.returns-in-Ok
unfolding report_of
returns-in-Ok c = rw (← c.in-Ok.ensures)

pub returns-in-Err : goal.returns-in-Err
unfolding report_of
returns-in-Err c = rw (← c.in-Err.ensures, ne_eqb _ 0 (not_done c.in-Err.refusal))
