-- The sum so far is that of the numbers passed.
use mathlib.Core.Path.{◌≡◌, refl}
use native.Mathlib.Omega.{arith}
use lib.ListN.{length}
use Rattle.lists.specs.Chunks.{turns}
use Rattle.attention.specs.Order.{summed, f32_dot}
use Rattle.decode.proofs.DecodeLaws.{number_at}
use Rattle.attention.proofs.OrderLaws.{summed_next}
use Rattle.scores.proofs.rest.score_f32.Goals as goal

pub loop-d-init : goal.loop-d-init
unfolding summed turns
loop-d-init c = refl

pub loop-d-preserved : goal.loop-d-preserved
loop-d-preserved c = summed_next _ _ c.loop-d.invariant (rw (c.word_to_f32.ensures, c.from_le_bytes.ensures, number_at 3 c.loop-d.d c.args.cells.now c.as_chunks.ensures.front (omega arith)))

pub returns : goal.returns
unfolding f32_dot
returns c = let e : c.loop-d.d ≡ length c.args.query.now = omega arith in rw (c.loop-d.invariant, e)
