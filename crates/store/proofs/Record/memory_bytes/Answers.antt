-- Refused, there is no count, and done, it is that of all layers.
use mathlib.Core.Path.{◌∙◌}
use Rattle.replies.proofs.Tested.{done, call_done, call_refused}
use Rattle.store.specs.Calls.{memory_bytes_of}
use Rattle.store.proofs.StoreLaws.{counted_none}
use Rattle.store.proofs.Record.memory_bytes.Goals as goal

pub returns-in_err-reply : goal.returns-in_err-reply
unfolding memory_bytes_of
returns-in_err-reply c = counted_none _ c.from_residual.ensures.0 ∙ call_refused _ c.reply.ensures _ _ c.in_err-reply.was c.from_residual.ensures.1

pub bytes_of_layers-requires : goal.bytes_of_layers-requires
bytes_of_layers-requires c = done _ c.reply.ensures c.in_ok-reply.was

pub returns : goal.returns
unfolding memory_bytes_of
returns c = call_done _ c.reply.ensures _ c.in_ok-reply.was c.bytes_of_layers.ensures
