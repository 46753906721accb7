-- The terms of the positions passed are added, in their order.
use mathlib.Core.Path.{refl}
use native.Mathlib.Nat.{one-mul}
use Rattle.lists.specs.Chunks.{turns}
use Rattle.lists.proofs.Turns.{turns_next}
use Rattle.sums.proofs.rest.add_rest.Goals as goal

pub loop-p-init : goal.loop-p-init
unfolding turns
loop-p-init c = refl

pub loop-p-preserved : goal.loop-p-preserved
loop-p-preserved c =
    let b = c.args.block.now in
    let row = c.part.ensures in
    turns_next _ _ _ c.loop-p.invariant (rw (row.shape.0, row.cells, row.scales, b.fits.1, b.fits.2, one-mul, one-mul) at c.add_row.ensures)
