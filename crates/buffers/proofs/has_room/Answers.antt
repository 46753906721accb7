-- The lowest refusal of a shape and its room is none exactly where both tests pass.
use mathlib.Core.Path.{◌≡◌, refl, ◌∙◌}
use mathlib.Core.Bool.{Bool, true, false, cond, not, ◌&&◌}
use lib.Dec.{eqb}
use Rattle.replies.specs.Outcome.{lowest}
use Rattle.replies.proofs.Tested.{is_done}
use Rattle.shapes.specs.Shape.{within, exact}
use Rattle.buffers.proofs.has_room.Goals as goal

no-refusal : (w e : Bool) → eqb (cond (not w) 1 (cond (not e) 2 0)) 0 ≡ (w && e)
no-refusal true true = refl
no-refusal true false = refl
no-refusal false e = refl

pub returns : goal.returns
unfolding lowest
returns c =
    let a = c.args in
    is_done _ c.is_ok.ensures.value ∙ rw c.room_reply.ensures (no-refusal (within a.shape) (exact a.shape a.cells a.scales))
