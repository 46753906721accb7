-- Past the limits, the total is computed and compared.
use Rattle.replies.proofs.Flags.{passed, failed}
use Rattle.shapes.specs.Shape.{within}
use Rattle.shapes.proofs.ShapeLaws.{limits_facts, cell_bytes_most}
use Rattle.shapes.proofs.is_within.Goals as goal

pub returns-then-not-in_limits : goal.returns-then-not-in_limits
unfolding within
returns-then-not-in_limits c = rw (failed c.in_limits.ensures c.if-not-in_limits.true)

pub elements-requires : goal.elements-requires
elements-requires c = let h = passed c.in_limits.ensures c.if-not-in_limits.false in (h, rw c.cell_bytes.ensures (cell_bytes_most _ (limits_facts _ h)))

pub returns : goal.returns
unfolding within
returns c = rw (passed c.in_limits.ensures c.if-not-in_limits.false, c.elements.ensures, c.cell_bytes.ensures)
