-- What reply 0 says of a head's call: its rows lie in both buffers, on either side, and their format has scores and sums.
-- It holds since no refusal of the call applies, and each refusal is a test that then ended the other way.
use mathlib.Core.Path.{◌≡◌, refl}
use mathlib.Core.Bool.{true}
use mathlib.Core.List.{◌++◌}
use Prim.Native.Nat.{ℕ, ◌<◌}
use native.Mathlib.Omega.{arith}
use borrow.Author.Tests.{ltb-true, leb-true, eqb-true, not-false}
use Rattle.replies.specs.Outcome.{lowest}
use Rattle.places.specs.declared.Span.{Span}
use Rattle.places.specs.Span.{span_of}
use Rattle.places.proofs.LentLaws.{Inside}
use Rattle.store.specs.declared.Record.{Record}
use Rattle.store.specs.Record.{length_of}
use Rattle.store.specs.Calls.{lent_refusals}
use Rattle.store.proofs.AcceptLaws.{layer_there, none_further, BlockIn, block_there, block_lent}
use Rattle.attention.specs.Order.{has_scores_of}
use Rattle.heads.specs.Calls.{head_refusals}

module _ (r : Record) (l h given m cells scales : ℕ)
    (z : lowest (lent_refusals r cells scales ++ head_refusals r.shape l (length_of r l) h given m) ≡ 0) where
  pub head_there : {side : ℕ} → side < 2 → BlockIn r l side h 0 m given cells scales
  head_there v =
      let t = none_further r l cells scales _ refl z in
      let few = leb-true m (length_of r l) (not-false _ t.1.1.1.0) in
      block_there (layer_there r l cells scales _ refl z) v (ltb-true h _ (not-false _ t.0)) (omega arith) (eqb-true given _ (not-false _ t.1.1.0))

  pub head_inside : {side : ℕ} {x : Span} → side < 2 → x ≡ span_of r.shape l side h 0 m → Inside x cells scales
  head_inside v e = block_lent (head_there v) e

  pub head-scored : has_scores_of r.shape.format ≡ true
  head-scored = not-false _ (none_further r l cells scales _ refl z).1.0
