-- Each name takes some of the rest.
use Rattle.std.proofs.Common.{length}
use Rattle.test_callfiles.proofs.play_named.Given as goal

abbrev pub decreases-loop-name : goal.decreases-loop-name
decreases-loop-name g l = length l.rest
