-- Refused, the output is as it was, and done, it has the row, which lies in both buffers.
use native.Mathlib.Omega.{arith}
use Rattle.replies.proofs.Tested.{done, call_done, call_refused}
use Rattle.store.specs.Calls.{read_of}
use Rattle.store.proofs.ReadLaws.{row_there, row_inside, row_read}
use Rattle.store.proofs.Record.read_row.Goals as goal

pub returns-in_err-read_reply : goal.returns-in_err-read_reply
unfolding read_of
returns-in_err-read_reply c = call_refused _ c.read_reply.ensures _ _ c.in_err-read_reply.was c.from_residual.ensures.1

pub slice_bounds-get_row-count : goal.slice_bounds-get_row-count
slice_bounds-get_row-count c = (row_inside _ _ _ _ _ _ _ _ (done _ c.read_reply.ensures c.in_ok-read_reply.was) c.span_of-span.ensures).cells_rise

pub slice_bounds-get_row-start : goal.slice_bounds-get_row-start
slice_bounds-get_row-start c = (row_inside _ _ _ _ _ _ _ _ (done _ c.read_reply.ensures c.in_ok-read_reply.was) c.span_of-span.ensures).cells_rise

pub slice_bounds-get_row-end : goal.slice_bounds-get_row-end
slice_bounds-get_row-end c = (row_inside _ _ _ _ _ _ _ _ (done _ c.read_reply.ensures c.in_ok-read_reply.was) c.span_of-span.ensures).cells_end

pub slice_bounds-get_row-count-2 : goal.slice_bounds-get_row-count-2
slice_bounds-get_row-count-2 c = (row_inside _ _ _ _ _ _ _ _ (done _ c.read_reply.ensures c.in_ok-read_reply.was) c.span_of-span.ensures).scales_rise

pub slice_bounds-get_row-start-2 : goal.slice_bounds-get_row-start-2
slice_bounds-get_row-start-2 c = (row_inside _ _ _ _ _ _ _ _ (done _ c.read_reply.ensures c.in_ok-read_reply.was) c.span_of-span.ensures).scales_rise

pub slice_bounds-get_row-end-2 : goal.slice_bounds-get_row-end-2
slice_bounds-get_row-end-2 c = (row_inside _ _ _ _ _ _ _ _ (done _ c.read_reply.ensures c.in_ok-read_reply.was) c.span_of-span.ensures).scales_end

pub offset_bounds-scales-span : goal.offset_bounds-scales-span
offset_bounds-scales-span c = record { fits = omega (arith, row_inside _ _ _ _ _ _ _ _ (done _ c.read_reply.ensures c.in_ok-read_reply.was) c.span_of-span.ensures) }

pub returns : goal.returns
unfolding read_of
returns c =
    let a = c.args in
    call_done _ c.read_reply.ensures _ c.in_ok-read_reply.was
    (row_read a.cells.now a.scales.now a.out.now (row_there _ _ _ _ _ _ _ _ (done _ c.read_reply.ensures c.in_ok-read_reply.was))
    c.span_of-span.ensures c.get_row.ensures)
