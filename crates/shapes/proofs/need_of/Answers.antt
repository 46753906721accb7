-- Inside the limits both totals are computed; outside, there is no need.
use Rattle.replies.proofs.Flags.{passed, failed}
use Rattle.shapes.specs.Shape.{need_of}
use Rattle.shapes.proofs.need_of.Goals as goal

pub returns-then-not-is_within : goal.returns-then-not-is_within
unfolding need_of
returns-then-not-is_within c = rw (failed c.is_within.ensures c.if-not-is_within.true)

pub totals-requires : goal.totals-requires
totals-requires c = passed c.is_within.ensures c.if-not-is_within.false

pub returns : goal.returns
unfolding need_of
returns c = rw (passed c.is_within.ensures c.if-not-is_within.false, ← c.totals.ensures.cells, ← c.totals.ensures.scales)
