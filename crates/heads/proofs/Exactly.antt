-- Each call's reply is n exactly when the condition of n holds and that of no lower number does.
-- Each holds by the law of the lowest refusal: the numbers of each call rise.
use mathlib.Core.Path.{◌≡◌, refl}
use mathlib.Core.List.{List, ◌++◌}
use mathlib.Core.Logic.{◌↔◌}
use Prim.Native.Nat.{ℕ}
use lib.ListN.{length}
use lib.Ieee.{Float}
use Rattle.replies.specs.Outcome.{Applies, outcome}
use Rattle.replies.proofs.Refusals.{exactly}
use Rattle.shapes.specs.Buffers.{Buffers}
use Rattle.store.specs.declared.Record.{Record}
use Rattle.store.specs.Record.{length_of}
use Rattle.store.specs.Calls.{store_refusals}
use Rattle.heads.specs.Calls.{head_refusals, head_scores_of, head_sums_of}

module _ (r : Record) (b : Buffers) (l h : ℕ) where
  -- scores: 1, 2, 3, 4, 5, 6, 7, 8
  pub scores_exactly : (query : List Float) (x : Float) (out : List ℕ) (n : ℕ)
      → ((head_scores_of r b l h query x out).reply ≡ n)
      ↔ Applies n (store_refusals r b ++ head_refusals r.shape l (length_of r l) h (length query) (length out))
  unfolding head_scores_of outcome
  scores_exactly query x out n = exactly 0 n _ refl

  -- sums: the same, with the output in the place of the query and the weights in that of the scores
  pub sums_exactly : (weights : List Float) (out : List ℕ) (n : ℕ)
      → ((head_sums_of r b l h weights out).reply ≡ n)
      ↔ Applies n (store_refusals r b ++ head_refusals r.shape l (length_of r l) h (length out) (length weights))
  unfolding head_sums_of outcome
  sums_exactly weights out n = exactly 0 n _ refl
