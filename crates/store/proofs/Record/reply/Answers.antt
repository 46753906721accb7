-- Each refusal is the test of its condition.
use mathlib.Core.Path.{refl}
use mathlib.Core.Bool.{not}
use mathlib.Core.List.{[], ◌∷◌}
use Rattle.replies.specs.Outcome.{◌when◌}
use Rattle.replies.specs.declared.Refusal.TheVariants.{Shape, Lengths}
use Rattle.replies.proofs.Tested.{required, first_refused, first_passed}
use Rattle.shapes.specs.Shape.{within}
use Rattle.store.proofs.Record.reply.Goals as goal

pub returns-in_err-require : goal.returns-in_err-require
returns-in_err-require c =
    first_refused ((1 when not (within c.args.self.now.shape)) ∷ []) (required Shape _ c.require.ensures c.is_within.ensures) _ _ c.in_err-require.was c.from_residual.ensures.1

pub returns : goal.returns
returns c =
    first_passed ((1 when not (within c.args.self.now.shape)) ∷ []) (required Shape _ c.require.ensures c.is_within.ensures) _ refl c.in_ok-require.was
    (required Lengths _ c.require-2.ensures c.has_good_lengths.ensures)
