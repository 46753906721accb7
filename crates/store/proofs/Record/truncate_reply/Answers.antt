-- The store is asked first, then the layer.
use mathlib.Core.Path.{refl}
use Rattle.replies.specs.declared.Refusal.TheVariants.{Layer}
use Rattle.replies.proofs.Tested.{required, first_refused, first_passed}
use Rattle.store.specs.Calls.{lent_refusals}
use Rattle.store.proofs.Record.truncate_reply.Goals as goal

pub returns-in_err-store_reply : goal.returns-in_err-store_reply
returns-in_err-store_reply c = let a = c.args in first_refused (lent_refusals a.self.now a.cells a.scales) c.store_reply.ensures _ _ c.in_err-store_reply.was c.from_residual.ensures.1

pub returns : goal.returns
returns c =
    let a = c.args in
    first_passed (lent_refusals a.self.now a.cells a.scales) c.store_reply.ensures _ refl c.in_ok-store_reply.was (required Layer _ c.require.ensures refl)
