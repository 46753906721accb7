-- Each branch knows how the test ended.
use borrow.Author.Tests.{lt-ltb, le-ltb}
use Rattle.store.proofs.most_of.Goals as goal

pub returns-then-l-shape : goal.returns-then-l-shape
returns-then-l-shape c = rw (lt-ltb c.args.l c.args.shape.layers c.if-l-shape.true)

pub returns-else-l-shape : goal.returns-else-l-shape
returns-else-l-shape c = rw (le-ltb c.args.l c.args.shape.layers c.if-l-shape.false)
