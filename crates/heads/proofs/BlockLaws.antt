-- The block that is lent for a head fits, and its scores and sums are those of the head.
-- It holds since each of its rows is the one at the paper's place.
use mathlib.Core.Path.{◌≡◌, ◌∙◌}
use mathlib.Core.Bool.{Bool, true}
use mathlib.Core.List.{List}
use Prim.Native.Nat.{ℕ, ◌<◌}
use native.Mathlib.Nat.{zero-add}
use native.Mathlib.Omega.{arith}
use lib.ListN.{length}
use lib.Ieee.{Float}
use Rattle.replies.specs.Tried.{tells}
use Rattle.replies.proofs.Flags.{both_true}
use Rattle.replies.proofs.Tried.{tried_left}
use Rattle.shapes.specs.Buffers.{buffers}
use Rattle.shapes.proofs.ShapeLaws.{limits_facts}
use Rattle.rows.proofs.FitLaws.{facts_fit}
use Rattle.places.specs.Place.{cells_at_of, scales_at}
use Rattle.places.specs.declared.Span.{Span}
use Rattle.places.specs.Span.{span_of}
use Rattle.places.proofs.LentLaws.{lent, lent_cells, lent_scales, cells_row, scales_row}
use Rattle.store.specs.declared.Record.{Record}
use Rattle.store.proofs.AcceptLaws.{BlockIn}
use Rattle.attention.specs.Order.{has_scores_of}
use Rattle.attention.specs.Block.{cells_of, scales_in, scores_of_block, sums_of_block, block_fits_of, block_scores_of, block_sums_of}
use Rattle.attention.proofs.OrderLaws.{scores_same, sums_same}
use Rattle.heads.specs.Calls.{scores_at, term_at, sums_at}

-- on either side
module _ {r : Record} {l side h given m : ℕ} {x : Span} (cells scales : List ℕ) (k : BlockIn r l side h 0 m given (length cells) (length scales))
    (e : x ≡ span_of r.shape l side h 0 m) where
  fits : has_scores_of r.shape.format ≡ true → block_fits_of r.shape.format given m (length (lent x cells scales).cells) (length (lent x cells scales).scales) ≡ true
  fits scored =
      let i = limits_facts r.shape k.rows_in.in-limits in
      both_true scored
      (facts_fit record {
        known = i.format_in;
        small = rw k.size i.size_in.1;
        few = omega (arith, k.rows_in.span, i.capacity_in);
        whole = rw k.size i.whole-groups;
        cell-bytes = rw k.size (lent_cells k.rows_in e cells scales k.sizes.0);
        scale-words = rw k.size (lent_scales k.rows_in e cells scales k.sizes.1);
      })

  cells_there : (p : ℕ) → p < m → cells_of r.shape.format given (lent x cells scales) p ≡ cells_at_of r.shape l side h p (buffers cells scales)
  cells_there p u = rw k.size (simp zero-add at (cells_row k.rows_in e cells scales p u))

  scales_there : (p : ℕ) → p < m → scales_in r.shape.format given (lent x cells scales) p ≡ scales_at r.shape l side h p (buffers cells scales)
  scales_there p u = rw k.size (simp zero-add at (scales_row k.rows_in e cells scales p u))

module _ {r : Record} {l h : ℕ} {x : Span} {done : Bool} {y : List ℕ} (cells scales : List ℕ) where
  pub scores_there : (query : List Float) (scale : Float) (out : List ℕ)
      → BlockIn r l 0 h 0 (length out) (length query) (length cells) (length scales) → has_scores_of r.shape.format ≡ true
      → x ≡ span_of r.shape l 0 h 0 (length out)
      → tells done y ≡ block_scores_of r.shape.format query scale (lent x cells scales) out
      → y ≡ scores_at r.shape l h query scale (length out) (buffers cells scales)
  unfolding block_scores_of scores_of_block scores_at
  scores_there query scale out k t e o =
      tried_left _ out (fits cells scales k e t) o
      ∙ scores_same (length out) _ _ scale (λ p u. rw (cells_there cells scales k e p u, scales_there cells scales k e p u))

  pub sums_there : (weights : List Float) (out : List ℕ)
      → BlockIn r l 1 h 0 (length weights) (length out) (length cells) (length scales) → has_scores_of r.shape.format ≡ true
      → x ≡ span_of r.shape l 1 h 0 (length weights)
      → tells done y ≡ block_sums_of r.shape.format weights (lent x cells scales) out
      → y ≡ sums_at r.shape l h weights (buffers cells scales)
  unfolding block_sums_of sums_of_block sums_at
  sums_there weights out k t e o =
      tried_left _ out (fits cells scales k e t) o
      ∙ sums_same (length out) (length weights) _ (term_at r.shape l h weights (buffers cells scales)) (λ p i u. rw (cells_there cells scales k e p u, scales_there cells scales k e p u))
      ∙ rw k.size
