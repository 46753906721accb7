-- Whatever a call may answer and leave under its statement, it answers and leaves one thing, by the one theorem on answers.
use mathlib.Core.List.{List}
use Prim.Native.Nat.{ℕ}
use lib.Ieee.{Float}
use Rattle.replies.proofs.Coincide.{One, coincide}
use Rattle.shapes.specs.Buffers.{Buffers}
use Rattle.store.specs.declared.Record.{Record}
use Rattle.heads.specs.Calls.{head_scores_of, head_sums_of}

module _ (r : Record) (b : Buffers) (l h : ℕ) where
  pub scores_determined : (query : List Float) (x : Float) (out : List ℕ) → One (head_scores_of r b l h query x out)
  scores_determined query x out = coincide (head_scores_of r b l h query x out)

  pub sums_determined : (weights : List Float) (out : List ℕ) → One (head_sums_of r b l h weights out)
  sums_determined weights out = coincide (head_sums_of r b l h weights out)
