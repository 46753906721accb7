-- Refused, there is no store, and done, both buffers are zeros.
use mathlib.Core.Path.{◌∙◌}
use Rattle.replies.proofs.Tested.{done, call_done, call_refused}
use Rattle.shapes.specs.Buffers.{buffers}
use Rattle.store.specs.Calls.{open_of}
use Rattle.store.proofs.AcceptLaws.{opened_none, zeros_left, store_alike}
use Rattle.store.proofs.Record.open.Goals as goal

pub returns-in_err-room_reply : goal.returns-in_err-room_reply
unfolding open_of
returns-in_err-room_reply c = opened_none _ _ c.from_residual.ensures.0 ∙ call_refused _ c.room_reply.ensures _ _ c.in_err-room_reply.was c.from_residual.ensures.1

pub returns : goal.returns
unfolding open_of
returns c =
    let a = c.args in
    call_done _ c.room_reply.ensures _ c.in_ok-room_reply.was
    (store_alike c.new.ensures
    (zeros_left a.shape (buffers a.cells.now a.scales.now) (done _ c.room_reply.ensures c.in_ok-room_reply.was)
    c.clear_all.ensures.cells c.clear_all.ensures.scales))
