-- Each test of the code is one of the definition's two.
use borrow.Author.Tests.{le-leb, lt-leb}
use Rattle.groups.specs.Group.{holds}
use Rattle.groups.proofs.has_group.Goals as goal

pub returns-then-numbers-ge32 : goal.returns-then-numbers-ge32
unfolding holds
returns-then-numbers-ge32 c = rw (le-leb _ _ c.if-numbers-ge32.true)

pub returns-else-numbers-ge32 : goal.returns-else-numbers-ge32
unfolding holds
returns-else-numbers-ge32 c = rw (lt-leb _ _ c.if-numbers-ge32.false)
