-- Refused, the output is as it was, and done, it is the head's, whose rows lie in both buffers.
use native.Mathlib.Omega.{arith}
use Rattle.replies.proofs.Tested.{done, call_done, call_refused}
use Rattle.heads.specs.Calls.{head_scores_of}
use Rattle.heads.proofs.HeadLaws.{head_there, head_inside, head-scored}
use Rattle.heads.proofs.BlockLaws.{scores_there}
use Rattle.heads.proofs.scores.Goals as goal

pub returns-in_err-head_reply : goal.returns-in_err-head_reply
unfolding head_scores_of
returns-in_err-head_reply c = call_refused _ c.head_reply.ensures _ _ c.in_err-head_reply.was c.from_residual.ensures.1

pub slice_bounds-block_scores-count : goal.slice_bounds-block_scores-count
slice_bounds-block_scores-count c = (head_inside _ _ _ _ _ _ _ (done _ c.head_reply.ensures c.in_ok-head_reply.was) (omega arith) c.span_of-span.ensures).cells_rise

pub slice_bounds-block_scores-start : goal.slice_bounds-block_scores-start
slice_bounds-block_scores-start c = (head_inside _ _ _ _ _ _ _ (done _ c.head_reply.ensures c.in_ok-head_reply.was) (omega arith) c.span_of-span.ensures).cells_rise

pub slice_bounds-block_scores-end : goal.slice_bounds-block_scores-end
slice_bounds-block_scores-end c = (head_inside _ _ _ _ _ _ _ (done _ c.head_reply.ensures c.in_ok-head_reply.was) (omega arith) c.span_of-span.ensures).cells_end

pub slice_bounds-block_scores-count-2 : goal.slice_bounds-block_scores-count-2
slice_bounds-block_scores-count-2 c = (head_inside _ _ _ _ _ _ _ (done _ c.head_reply.ensures c.in_ok-head_reply.was) (omega arith) c.span_of-span.ensures).scales_rise

pub slice_bounds-block_scores-start-2 : goal.slice_bounds-block_scores-start-2
slice_bounds-block_scores-start-2 c = (head_inside _ _ _ _ _ _ _ (done _ c.head_reply.ensures c.in_ok-head_reply.was) (omega arith) c.span_of-span.ensures).scales_rise

pub slice_bounds-block_scores-end-2 : goal.slice_bounds-block_scores-end-2
slice_bounds-block_scores-end-2 c = (head_inside _ _ _ _ _ _ _ (done _ c.head_reply.ensures c.in_ok-head_reply.was) (omega arith) c.span_of-span.ensures).scales_end

pub offset_bounds-scales-span : goal.offset_bounds-scales-span
offset_bounds-scales-span c = record { fits = omega (arith, head_inside _ _ _ _ _ _ _ (done _ c.head_reply.ensures c.in_ok-head_reply.was) (omega arith) c.span_of-span.ensures) }

pub returns : goal.returns
unfolding head_scores_of
returns c =
    let a = c.args in
    let z = done _ c.head_reply.ensures c.in_ok-head_reply.was in
    call_done _ c.head_reply.ensures _ c.in_ok-head_reply.was
    (scores_there a.cells.now a.scales.now a.query.now a.scale a.out.now (head_there _ _ _ _ _ _ _ z (omega arith)) (head-scored _ _ _ _ _ _ _ z) c.span_of-span.ensures c.block_scores.ensures)
