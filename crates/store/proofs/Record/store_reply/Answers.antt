-- The room is asked first, then the lengths.
use mathlib.Core.Path.{refl}
use Rattle.replies.specs.declared.Refusal.TheVariants.{Lengths}
use Rattle.replies.proofs.Tested.{required, first_refused, first_passed}
use Rattle.shapes.specs.Shape.{room_refusals}
use Rattle.store.proofs.Record.store_reply.Goals as goal

pub returns-in_err-room_reply : goal.returns-in_err-room_reply
returns-in_err-room_reply c = first_refused (room_refusals c.args.self.now.shape c.args.cells c.args.scales) c.room_reply.ensures _ _ c.in_err-room_reply.was c.from_residual.ensures.1

pub returns : goal.returns
returns c =
    first_passed (room_refusals c.args.self.now.shape c.args.cells c.args.scales) c.room_reply.ensures _ refl c.in_ok-room_reply.was
    (required Lengths _ c.require.ensures c.has_good_lengths.ensures)
