-- Rows in one layer of a buffer that has b elements for each, and zeros after them: what a write to this layer or to another leaves of that.
-- Each holds place by place, since a write is seen at its own places alone; cells have b = B, scale words b = S.
use mathlib.Core.Path.{◌≡◌, sym, ◌∙◌}
use mathlib.Core.Bool.{cond}
use mathlib.Core.Logic.{◌≢◌, inl, inr}
use mathlib.Core.List.{List}
use Prim.Native.Nat.{ℕ, ◌+◌, ◌-◌, ◌<◌}
use native.Mathlib.Omega.{arith}
use native.Mathlib.Decide.{dec_lt}
use lib.Dec.{ltb}
use lib.ListN.{replicate}
use borrow.Author.Tests.{lt-ltb, le-ltb}
use Rattle.lists.specs.Chunks.{part}
use Rattle.lists.proofs.Part.{part-replicate}
use Rattle.shapes.specs.declared.Shape.{Shape}
use Rattle.shapes.specs.Shape.{total}
use Rattle.places.specs.Place.{place}
use Rattle.places.proofs.PlaceLaws.{Place, row_in}
use Rattle.buffers.specs.Write.{written, zeros}
use Rattle.buffers.proofs.WriteLaws.{Written, written_there, written_elsewhere}

-- layer l has n rows, and zeros after them
pub record HoldsRows (b : ℕ) (s : Shape) (l n : ℕ) (rows : ℕ → ℕ → ℕ → List ℕ) (buf : List ℕ) : Type 0 where
  pub row : (side h p : ℕ) → Place s l side h p → part (place b s l side h p) b buf ≡ cond (ltb p n) (rows side h p) (replicate b 0)

-- no rows in zeros
pub holds_none : (b : ℕ) (s : Shape) (l : ℕ) (rows : ℕ → ℕ → ℕ → List ℕ) → HoldsRows b s l 0 rows (replicate (total b s) 0)
holds_none b s l rows =
    record { row = λ side h p k. rw (le-ltb p 0 (omega arith)) (part-replicate (place b s l side h p) b (total b s) 0 (row_in b k)) }

module _ {b : ℕ} {s : Shape} {l n : ℕ} {rows : ℕ → ℕ → ℕ → List ℕ} {buf : List ℕ} (len : HoldsRows b s l n rows buf) where
  -- after a write to another layer
  pub holds_still : {m q k : ℕ} {new : ℕ → ℕ → ℕ → List ℕ} → l ≢ m → Written b s m q k new buf → HoldsRows b s l n rows (written b s m q k new buf)
  holds_still d w = record { row = λ side h p u. written_elsewhere b u w (inl d) ∙ len.row side h p u }

  -- after k rows written at their end: all is the old rows and then the new ones
  module _ {k : ℕ} {new all : ℕ → ℕ → ℕ → List ℕ} (w : Written b s l n k new buf)
      (old_rows : (side h p : ℕ) → h < s.heads → p < n → all side h p ≡ rows side h p)
      (new_rows : (side h i : ℕ) → h < s.heads → i < k → all side h (n + i) ≡ new side h i) where
    added_at : (side h p : ℕ) → Place s l side h p → Dec (p < n) → Dec (p < n + k)
        → part (place b s l side h p) b (written b s l n k new buf) ≡ cond (ltb p (n + k)) (all side h p) (replicate b 0)
    added_at side h p u (yes x) d =
        written_elsewhere b u w (inr (inl x))
        ∙ len.row side h p u
        ∙ rw (lt-ltb p n x, lt-ltb p (n + k) (omega arith), old_rows side h p u.head_in x)
    added_at side h p u (no x) (yes y) =
        let e : n + (p - n) ≡ p = omega arith in
        written_there b u w (omega arith) y ∙ rw (lt-ltb p (n + k) y) (sym (new_rows side h (p - n) u.head_in (omega arith)) ∙ rw e)
    added_at side h p u (no x) (no y) =
        written_elsewhere b u w (inr (inr (omega arith)))
        ∙ len.row side h p u
        ∙ rw (le-ltb p n (omega arith), le-ltb p (n + k) (omega arith))

    pub holds-added : HoldsRows b s l (n + k) all (written b s l n k new buf)
    holds-added = record { row = λ side h p u. added_at side h p u (dec_lt p n) (dec_lt p (n + k)) }

  -- after zeros written from t to their end: first is the first t rows
  module _ {t : ℕ} {first : ℕ → ℕ → ℕ → List ℕ} (w : Written b s l t (n - t) (zeros b) buf) (v : t < n)
      (first_rows : (side h p : ℕ) → h < s.heads → p < t → first side h p ≡ rows side h p) where
    cut_at : (side h p : ℕ) → Place s l side h p → Dec (p < t) → Dec (p < n)
        → part (place b s l side h p) b (written b s l t (n - t) (zeros b) buf) ≡ cond (ltb p t) (first side h p) (replicate b 0)
    cut_at side h p u (yes x) d =
        written_elsewhere b u w (inr (inl x))
        ∙ len.row side h p u
        ∙ rw (lt-ltb p n (omega arith), lt-ltb p t x, first_rows side h p u.head_in x)
    cut_at side h p u (no x) (yes y) = written_there b u w (omega arith) (omega arith) ∙ rw (le-ltb p t (omega arith))
    cut_at side h p u (no x) (no y) =
        written_elsewhere b u w (inr (inr (omega arith)))
        ∙ len.row side h p u
        ∙ rw (le-ltb p n (omega arith), le-ltb p t (omega arith))

    pub holds_cut : HoldsRows b s l t first (written b s l t (n - t) (zeros b) buf)
    holds_cut = record { row = λ side h p u. cut_at side h p u (dec_lt p t) (dec_lt p n) }
