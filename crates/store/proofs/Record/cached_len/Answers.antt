-- Refused, there is no count, and done, it is the layer's length.
use mathlib.Core.Path.{◌∙◌}
use Rattle.replies.proofs.Tested.{call_done, call_refused}
use Rattle.store.specs.Calls.{cached_len_of}
use Rattle.store.proofs.StoreLaws.{counted_none}
use Rattle.store.proofs.Record.cached_len.Goals as goal

pub returns-in_err-layer_reply : goal.returns-in_err-layer_reply
unfolding cached_len_of
returns-in_err-layer_reply c = counted_none _ c.from_residual.ensures.0 ∙ call_refused _ c.layer_reply.ensures _ _ c.in_err-layer_reply.was c.from_residual.ensures.1

pub returns : goal.returns
unfolding cached_len_of
returns c = call_done _ c.layer_reply.ensures _ c.in_ok-layer_reply.was (c.from.ensures ∙ c.length_of.ensures)
