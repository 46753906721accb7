-- The store is asked first, then each refusal of the call.
use mathlib.Core.Path.{refl}
use Rattle.replies.specs.declared.Refusal.TheVariants.{Layer, Head, Format, Size, Position}
use Rattle.replies.proofs.Tested.{required, unmet, met, first_refused, first_passed}
use Rattle.store.specs.Calls.{lent_refusals}
use Rattle.heads.proofs.head_reply.Goals as goal

pub returns-in_err-store_reply : goal.returns-in_err-store_reply
returns-in_err-store_reply c = let a = c.args in first_refused (lent_refusals a.«record».now a.cells a.scales) c.store_reply.ensures _ _ c.in_err-store_reply.was c.from_residual.ensures.1

pub returns-in_err-require : goal.returns-in_err-require
returns-in_err-require c =
    let a = c.args in
    first_passed (lent_refusals a.«record».now a.cells a.scales) c.store_reply.ensures _ refl c.in_ok-store_reply.was
    (unmet Layer _ c.require.ensures _ _ refl c.in_err-require.was c.from_residual-in_err-require.ensures.1)

pub returns-in_err-require-2 : goal.returns-in_err-require-2
returns-in_err-require-2 c =
    let a = c.args in
    first_passed (lent_refusals a.«record».now a.cells a.scales) c.store_reply.ensures _ refl c.in_ok-store_reply.was
    (met Layer _ c.require.ensures _ refl c.in_ok-require.was
    (unmet Head _ c.require-2.ensures _ _ refl c.in_err-require-2.was c.from_residual-in_err-require-2.ensures.1))

pub returns-in_err-require-3 : goal.returns-in_err-require-3
returns-in_err-require-3 c =
    let a = c.args in
    first_passed (lent_refusals a.«record».now a.cells a.scales) c.store_reply.ensures _ refl c.in_ok-store_reply.was
    (met Layer _ c.require.ensures _ refl c.in_ok-require.was
    (met Head _ c.require-2.ensures _ refl c.in_ok-require-2.was
    (unmet Format _ c.require-3.ensures _ _ c.has_scores.ensures c.in_err-require-3.was c.from_residual-in_err-require-3.ensures.1)))

pub returns-in_err-require-4 : goal.returns-in_err-require-4
returns-in_err-require-4 c =
    let a = c.args in
    first_passed (lent_refusals a.«record».now a.cells a.scales) c.store_reply.ensures _ refl c.in_ok-store_reply.was
    (met Layer _ c.require.ensures _ refl c.in_ok-require.was
    (met Head _ c.require-2.ensures _ refl c.in_ok-require-2.was
    (met Format _ c.require-3.ensures _ c.has_scores.ensures c.in_ok-require-3.was
    (unmet Size _ c.require-4.ensures _ _ refl c.in_err-require-4.was c.from_residual-in_err-require-4.ensures.1))))

pub returns : goal.returns
returns c =
    let a = c.args in
    first_passed (lent_refusals a.«record».now a.cells a.scales) c.store_reply.ensures _ refl c.in_ok-store_reply.was
    (met Layer _ c.require.ensures _ refl c.in_ok-require.was
    (met Head _ c.require-2.ensures _ refl c.in_ok-require-2.was
    (met Format _ c.require-3.ensures _ c.has_scores.ensures c.in_ok-require-3.was
    (met Size _ c.require-4.ensures _ refl c.in_ok-require-4.was
    (required Position _ c.require-5.ensures (rw c.length_of.ensures))))))
