-- Refused, all is as it was, and done, the layer's positions from t on are zeros.
use mathlib.Core.Path.{refl, ◌∙◌}
use mathlib.Core.List.{[]}
use Rattle.replies.proofs.Tested.{done, call_done, call_refused}
use Rattle.shapes.specs.Buffers.{buffers}
use Rattle.store.specs.Calls.{truncate_of}
use Rattle.store.proofs.AcceptLaws.{layer_there, in_record, remove_left, store_alike}
use Rattle.store.proofs.Record.truncate_to.Goals as goal

pub returns-in_err-truncate_reply : goal.returns-in_err-truncate_reply
unfolding truncate_of
returns-in_err-truncate_reply c = call_refused _ c.truncate_reply.ensures _ _ c.in_err-truncate_reply.was c.from_residual.ensures.1

pub set_length-requires : goal.set_length-requires
set_length-requires c = in_record (layer_there _ _ _ _ [] refl (done _ c.truncate_reply.ensures c.in_ok-truncate_reply.was))

pub returns : goal.returns
unfolding truncate_of
returns c =
    let a = c.args in
    let e = c.length_of-len.ensures in
    call_done _ c.truncate_reply.ensures _ c.in_ok-truncate_reply.was
    (store_alike (c.set_length.ensures ∙ rw (c.min.ensures, e))
    (remove_left a.self.now (buffers a.cells.now a.scales.now) a.layer a.t (done _ c.truncate_reply.ensures c.in_ok-truncate_reply.was) e c.remove_rows.ensures))
