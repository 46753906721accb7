-- Each sum so far is that of its row's numbers passed.
use mathlib.Core.Path.{◌≡◌, refl}
use native.Mathlib.Omega.{arith}
use lib.ListN.{length}
use Rattle.lists.specs.Chunks.{turns}
use Rattle.lists.proofs.Turns.{turns_next}
use Rattle.scores.proofs.BlockLaws.{four_f32_dots}
use Rattle.scores.proofs.fours.four_f32.Goals as goal

pub loop-d-init : goal.loop-d-init
unfolding turns
loop-d-init c = refl

pub loop-d-preserved : goal.loop-d-preserved
loop-d-preserved c = turns_next _ _ _ c.loop-d.invariant c.add_numbers.ensures

pub returns : goal.returns
returns c = let e : c.loop-d.d ≡ length c.args.query.now = omega arith in four_f32_dots _ _ (rw e at c.loop-d.invariant)
