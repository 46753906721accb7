-- Scores and weighted sums of a stored head: the paper's Scores and sums, under Calls, with replies 1 to 8.
use Rattle.std.specs.Prelude.{ℕ, not, List, [], ◌∷◌, ◌++◌, eqb, ltb, leb, length, get_or, Float}
use Rattle.std.specs.Float.{nan}
use Rattle.replies.specs.Outcome.{Case, ◌when◌, Outcome, outcome}
use Rattle.shapes.specs.declared.Shape.{Shape}
use Rattle.shapes.specs.Shape.{head_size_of}
use Rattle.shapes.specs.Buffers.{Buffers}
use Rattle.places.specs.Place.{cells_at_of, scales_at}
use Rattle.store.specs.declared.Record.{Record}
use Rattle.store.specs.Record.{length_of}
use Rattle.store.specs.Calls.{has_layer, store_refusals}
use Rattle.attention.specs.Order.{has_scores_of, row_dot, row_term, scores_of, sums_of}

-- the first m positions of head h in layer l, scored on the keys' side under a query and a given scale x
unfoldable pub scores_at : Shape → ℕ → ℕ → List Float → Float → ℕ → Buffers → List ℕ
scores_at s l h query x m b = scores_of m (λ p. row_dot s.format query (cells_at_of s l 0 h p b) (scales_at s l 0 h p b)) x

-- and summed on the values' side under weights, one for each position
abbrev pub term_at : Shape → ℕ → ℕ → List Float → Buffers → ℕ → ℕ → Float
term_at s l h weights b p = row_term s.format (get_or weights p nan) (cells_at_of s l 1 h p b) (scales_at s l 1 h p b)

unfoldable pub sums_at : Shape → ℕ → ℕ → List Float → Buffers → List ℕ
sums_at s l h weights b = sums_of (head_size_of s) (length weights) (term_at s l h weights b)

-- the refusals past those of the store, where a layer has `len` positions: `given` numbers of a query or of an output, m scores or weights
abbrev pub head_refusals : Shape → ℕ → ℕ → ℕ → ℕ → ℕ → List Case
head_refusals s l len h given m =
    (4 when not (has_layer s l))
    ∷ (5 when not (ltb h s.heads))
    ∷ (6 when not (has_scores_of s.format))
    ∷ (7 when not (eqb given (head_size_of s)))
    ∷ (8 when not (leb m len))
    ∷ []

-- each call
unfoldable pub head_scores_of : Record → Buffers → ℕ → ℕ → List Float → Float → List ℕ → Outcome (List ℕ)
head_scores_of r b l h query x out =
    outcome (store_refusals r b ++ head_refusals r.shape l (length_of r l) h (length query) (length out))
    (scores_at r.shape l h query x (length out) b) out

unfoldable pub head_sums_of : Record → Buffers → ℕ → ℕ → List Float → List ℕ → Outcome (List ℕ)
head_sums_of r b l h weights out =
    outcome (store_refusals r b ++ head_refusals r.shape l (length_of r l) h (length out) (length weights)) (sums_at r.shape l h weights b) out
