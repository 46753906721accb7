-- Refused, the record is as it was, and done, its sequence number is the sum, which fits.
use mathlib.Core.Path.{refl}
use native.Mathlib.Omega.{arith}
use Rattle.replies.proofs.Tested.{done, call_done, call_refused}
use Rattle.store.specs.Calls.{advance_of}
use Rattle.store.proofs.AcceptLaws.{sequence_fits}
use Rattle.store.proofs.Record.advance_seq_len.Goals as goal

pub returns-in_err-advance_reply : goal.returns-in_err-advance_reply
unfolding advance_of
returns-in_err-advance_reply c = call_refused _ c.advance_reply.ensures _ _ c.in_err-advance_reply.was c.from_residual.ensures.1

pub overflow_add-self : goal.overflow_add-self
overflow_add-self c = record { fits = omega (arith, sequence_fits _ _ (done _ c.advance_reply.ensures c.in_ok-advance_reply.was)) }

pub returns : goal.returns
unfolding advance_of
returns c = call_done _ c.advance_reply.ensures _ c.in_ok-advance_reply.was refl
