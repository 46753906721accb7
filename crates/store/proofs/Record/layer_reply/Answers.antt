-- The record is asked first, then the layer.
use mathlib.Core.Path.{refl}
use Rattle.replies.specs.declared.Refusal.TheVariants.{Layer}
use Rattle.replies.proofs.Tested.{required, first_refused, first_passed}
use Rattle.store.specs.Calls.{record_refusals}
use Rattle.store.proofs.Record.layer_reply.Goals as goal

pub returns-in_err-reply : goal.returns-in_err-reply
returns-in_err-reply c = first_refused (record_refusals c.args.self.now) c.reply.ensures _ _ c.in_err-reply.was c.from_residual.ensures.1

pub returns : goal.returns
returns c = first_passed (record_refusals c.args.self.now) c.reply.ensures _ refl c.in_ok-reply.was (required Layer _ c.require.ensures refl)
