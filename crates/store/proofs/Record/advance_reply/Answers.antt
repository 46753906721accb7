-- The record is asked first, then the sequence number.
use mathlib.Core.Path.{refl}
use native.Mathlib.Omega.{arith}
use Rattle.replies.specs.declared.Refusal.TheVariants.{Sequence}
use Rattle.replies.proofs.Flags.{within_rest}
use Rattle.replies.proofs.Tested.{required, first_refused, first_passed}
use Rattle.store.specs.Record.{seq_len_of}
use Rattle.store.specs.Calls.{record_refusals}
use Rattle.store.proofs.Record.advance_reply.Goals as goal

pub returns-in_err-reply : goal.returns-in_err-reply
returns-in_err-reply c = first_refused (record_refusals c.args.self.now) c.reply.ensures _ _ c.in_err-reply.was c.from_residual.ensures.1

pub returns : goal.returns
returns c =
    let a = c.args in
    first_passed (record_refusals a.self.now) c.reply.ensures _ refl c.in_ok-reply.was
    (required Sequence _ c.require.ensures (within_rest (seq_len_of a.self.now) a.count 4294967295 (omega arith)))
