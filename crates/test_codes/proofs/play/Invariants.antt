-- The rest is no longer than the text, and each line takes some of it.
use Rattle.std.proofs.Common.{length, ◌≤◌}
use Rattle.test_codes.proofs.play.Given as goal

abbrev pub invariant-loop-line : goal.invariant-loop-line
invariant-loop-line g l = length l.rest ≤ length l.text

abbrev pub decreases-loop-line : goal.decreases-loop-line
decreases-loop-line g l = length l.rest
