-- Refused, the output is as it was, and done, it is the head's, whose rows lie in both buffers.
use native.Mathlib.Omega.{arith}
use Rattle.replies.proofs.Tested.{done, call_done, call_refused}
use Rattle.heads.specs.Calls.{head_sums_of}
use Rattle.heads.proofs.HeadLaws.{head_there, head_inside, head-scored}
use Rattle.heads.proofs.BlockLaws.{sums_there}
use Rattle.heads.proofs.sums.Goals as goal

pub returns-in_err-head_reply : goal.returns-in_err-head_reply
unfolding head_sums_of
returns-in_err-head_reply c = call_refused _ c.head_reply.ensures _ _ c.in_err-head_reply.was c.from_residual.ensures.1

pub slice_bounds-block_sums-count : goal.slice_bounds-block_sums-count
slice_bounds-block_sums-count c = (head_inside _ _ _ _ _ _ _ (done _ c.head_reply.ensures c.in_ok-head_reply.was) (omega arith) c.span_of-span.ensures).cells_rise

pub slice_bounds-block_sums-start : goal.slice_bounds-block_sums-start
slice_bounds-block_sums-start c = (head_inside _ _ _ _ _ _ _ (done _ c.head_reply.ensures c.in_ok-head_reply.was) (omega arith) c.span_of-span.ensures).cells_rise

pub slice_bounds-block_sums-end : goal.slice_bounds-block_sums-end
slice_bounds-block_sums-end c = (head_inside _ _ _ _ _ _ _ (done _ c.head_reply.ensures c.in_ok-head_reply.was) (omega arith) c.span_of-span.ensures).cells_end

pub slice_bounds-block_sums-count-2 : goal.slice_bounds-block_sums-count-2
slice_bounds-block_sums-count-2 c = (head_inside _ _ _ _ _ _ _ (done _ c.head_reply.ensures c.in_ok-head_reply.was) (omega arith) c.span_of-span.ensures).scales_rise

pub slice_bounds-block_sums-start-2 : goal.slice_bounds-block_sums-start-2
slice_bounds-block_sums-start-2 c = (head_inside _ _ _ _ _ _ _ (done _ c.head_reply.ensures c.in_ok-head_reply.was) (omega arith) c.span_of-span.ensures).scales_rise

pub slice_bounds-block_sums-end-2 : goal.slice_bounds-block_sums-end-2
slice_bounds-block_sums-end-2 c = (head_inside _ _ _ _ _ _ _ (done _ c.head_reply.ensures c.in_ok-head_reply.was) (omega arith) c.span_of-span.ensures).scales_end

pub offset_bounds-scales-span : goal.offset_bounds-scales-span
offset_bounds-scales-span c = record { fits = omega (arith, head_inside _ _ _ _ _ _ _ (done _ c.head_reply.ensures c.in_ok-head_reply.was) (omega arith) c.span_of-span.ensures) }

pub returns : goal.returns
unfolding head_sums_of
returns c =
    let a = c.args in
    let z = done _ c.head_reply.ensures c.in_ok-head_reply.was in
    call_done _ c.head_reply.ensures _ c.in_ok-head_reply.was
    (sums_there a.cells.now a.scales.now a.weights.now a.out.now (head_there _ _ _ _ _ _ _ z (omega arith)) (head-scored _ _ _ _ _ _ _ z) c.span_of-span.ensures c.block_sums.ensures)
