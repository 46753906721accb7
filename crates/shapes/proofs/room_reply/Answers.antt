-- Each test is a refusal, in the order of their numbers.
use mathlib.Core.Path.{refl}
use mathlib.Core.Bool.{not}
use mathlib.Core.List.{[], ◌∷◌}
use Rattle.replies.specs.Outcome.{◌when◌}
use Rattle.replies.specs.declared.Refusal.TheVariants.{Shape, Room}
use Rattle.replies.proofs.Tested.{required, held, first_refused, first_passed}
use Rattle.replies.proofs.Flags.{passed}
use Rattle.shapes.specs.Shape.{within, exact}
use Rattle.shapes.proofs.room_reply.Goals as goal

pub totals-need-requires : goal.totals-need-requires
totals-need-requires c = passed c.is_within.ensures (held Shape _ c.require.ensures c.in_ok-require.was)

pub returns-in_err-require : goal.returns-in_err-require
returns-in_err-require c =
    first_refused ((1 when not (within c.args.shape)) ∷ []) (required Shape _ c.require.ensures c.is_within.ensures) _ _ c.in_err-require.was c.from_residual.ensures.1

pub returns : goal.returns
unfolding exact
returns c =
    first_passed ((1 when not (within c.args.shape)) ∷ []) (required Shape _ c.require.ensures c.is_within.ensures) _ refl c.in_ok-require.was
    (required Room _ c.require-2.ensures (rw (← c.totals-need.ensures.cells, ← c.totals-need.ensures.scales)))
