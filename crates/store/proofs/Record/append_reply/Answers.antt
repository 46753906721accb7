-- The store is asked first. Past it a position has a number.
use mathlib.Core.Path.{◌≡◌, refl}
use Prim.Native.Nat.{ℕ, ◌≤◌}
use Rattle.replies.specs.Outcome.{lowest}
use Rattle.replies.specs.declared.Refusal.TheVariants.{Layer, Size, Full}
use Rattle.replies.proofs.Tested.{done, required, unmet, met, first_refused, first_passed}
use Rattle.shapes.specs.Shape.{width}
use Rattle.shapes.proofs.ShapeLaws.{within-limits, width_in}
use Rattle.store.specs.declared.Record.{Record}
use Rattle.store.specs.Calls.{lent_refusals}
use Rattle.store.proofs.StoreLaws.{sound_store}
use Rattle.store.proofs.Record.append_reply.Goals as goal

-- the numbers of a position of a store
wide : (r : Record) (cells scales : ℕ) → lowest (lent_refusals r cells scales) ≡ 0 → (1 ≤ width r.shape) × (width r.shape ≤ 16384)
wide r cells scales z = width_in _ (within-limits _ (sound_store r cells scales z).shape_in)

pub returns-in_err-store_reply : goal.returns-in_err-store_reply
returns-in_err-store_reply c = let a = c.args in first_refused (lent_refusals a.self.now a.cells a.scales) c.store_reply.ensures _ _ c.in_err-store_reply.was c.from_residual.ensures.1

pub returns-in_err-require : goal.returns-in_err-require
returns-in_err-require c =
    let a = c.args in
    first_passed (lent_refusals a.self.now a.cells a.scales) c.store_reply.ensures _ refl c.in_ok-store_reply.was
    (unmet Layer _ c.require.ensures _ _ refl c.in_err-require.was c.from_residual-in_err-require.ensures.1)

pub nonzero_rem-whole : goal.nonzero_rem-whole
nonzero_rem-whole c = (wide c.args.self.now c.args.cells c.args.scales (done _ c.store_reply.ensures c.in_ok-store_reply.was)).0

pub returns-in_err-require-2 : goal.returns-in_err-require-2
returns-in_err-require-2 c =
    let a = c.args in
    first_passed (lent_refusals a.self.now a.cells a.scales) c.store_reply.ensures _ refl c.in_ok-store_reply.was
    (met Layer _ c.require.ensures _ refl c.in_ok-require.was
    (unmet Size _ c.require-2.ensures _ _ refl c.in_err-require-2.was c.from_residual-in_err-require-2.ensures.1))

pub nonzero_div-after : goal.nonzero_div-after
nonzero_div-after c = (wide c.args.self.now c.args.cells c.args.scales (done _ c.store_reply.ensures c.in_ok-store_reply.was)).0

pub returns : goal.returns
returns c =
    let a = c.args in
    first_passed (lent_refusals a.self.now a.cells a.scales) c.store_reply.ensures _ refl c.in_ok-store_reply.was
    (met Layer _ c.require.ensures _ refl c.in_ok-require.was
    (met Size _ c.require-2.ensures _ refl c.in_ok-require-2.was (required Full _ c.require-3.ensures (rw c.length_of.ensures))))
