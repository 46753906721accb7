-- The NaNs passed are counted.
use mathlib.Core.Path.{refl}
use native.Mathlib.Omega.{arith}
use Rattle.lists.specs.Chunks.{turns}
use Rattle.lists.proofs.Some.{sum_most}
use Rattle.lists.proofs.Turns.{turns_next}
use Rattle.sums.proofs.NanLaws.{nan_count, one_at_most}
use Rattle.sums.proofs.stored.nans.Goals as goal

pub loop-d-init : goal.loop-d-init
unfolding turns
loop-d-init c = refl

pub overflow_add-count : goal.overflow_add-count
overflow_add-count c =
    let k = c.loop-d in
    let cells = c.args.cells.now in
    omega (arith, sum_most k.d 1 (nan_count cells) (one_at_most cells), one_at_most cells k.d, c.nan_at-count.ensures)

pub loop-d-preserved : goal.loop-d-preserved
loop-d-preserved c = turns_next _ _ 0 c.loop-d.invariant (rw c.nan_at-count.ensures)
