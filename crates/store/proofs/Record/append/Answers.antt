-- Refused, all is as it was, and done, the layer has the new rows and its new length.
use mathlib.Core.Path.{◌∙◌}
use native.Mathlib.Omega.{arith}
use Rattle.replies.proofs.Tested.{done, call_done, call_refused}
use Rattle.shapes.specs.Buffers.{buffers}
use Rattle.shapes.proofs.ShapeLaws.{limits_facts, width_in}
use Rattle.store.specs.Calls.{append_of}
use Rattle.store.proofs.AcceptLaws.{in-limits, in_record, append_layer, append_room, append_left, store_alike}
use Rattle.store.proofs.Record.append.Goals as goal

pub returns-in_err-append_reply : goal.returns-in_err-append_reply
unfolding append_of
returns-in_err-append_reply c = call_refused _ c.append_reply.ensures _ _ c.in_err-append_reply.was c.from_residual.ensures.1

pub overflow_mul-n : goal.overflow_mul-n
overflow_mul-n c = omega (arith, width_in _ (in-limits (append_layer _ _ _ _ _ _ (done _ c.append_reply.ensures c.in_ok-append_reply.was))))

pub nonzero_div-n : goal.nonzero_div-n
nonzero_div-n c = (width_in _ (in-limits (append_layer _ _ _ _ _ _ (done _ c.append_reply.ensures c.in_ok-append_reply.was)))).0

pub overflow_cast-n-3 : goal.overflow_cast-n-3
overflow_cast-n-3 c =
    let z = done _ c.append_reply.ensures c.in_ok-append_reply.was in
    omega (arith, append_room _ _ _ _ _ _ z, (limits_facts _ (in-limits (append_layer _ _ _ _ _ _ z))).capacity_in)

pub overflow_add-len : goal.overflow_add-len
overflow_add-len c =
    let z = done _ c.append_reply.ensures c.in_ok-append_reply.was in
    omega (arith, c.length_of-len.ensures, append_room _ _ _ _ _ _ z, (limits_facts _ (in-limits (append_layer _ _ _ _ _ _ z))).capacity_in)

pub set_length-requires : goal.set_length-requires
set_length-requires c = in_record (append_layer _ _ _ _ _ _ (done _ c.append_reply.ensures c.in_ok-append_reply.was))

pub returns : goal.returns
unfolding append_of
returns c =
    let a = c.args in
    let e = c.length_of-len.ensures in
    call_done _ c.append_reply.ensures _ c.in_ok-append_reply.was
    (store_alike (c.set_length.ensures ∙ rw e)
    (append_left a.self.now (buffers a.cells.now a.scales.now) a.layer a.keys.now a.values.now (done _ c.append_reply.ensures c.in_ok-append_reply.was) e c.append_rows.ensures))
