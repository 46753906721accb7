-- Each line takes some of the rest.
use Rattle.std.proofs.Common.{length}
use Rattle.test_histories.proofs.play.Given as goal

abbrev pub decreases-loop-line : goal.decreases-loop-line
decreases-loop-line g l = length l.rest
