-- What is lent of both buffers in a head, and what a call leaves there.
use Rattle.std.specs.Prelude.{◌≡◌, ℕ, List, length}
use denote.Ref.{MutBor}
use denote.Param.Members.{Shared}

module _ {F : Type 0}
    (g : Shared F (ℕ × (MutBor (List ℕ) × (MutBor (List ℕ) × Unit {0}))) (Unit {0} × (MutBor (List ℕ) × (MutBor (List ℕ) × Unit {0})))) (f : F) (h cells scales : ℕ) where
  -- f may be called for head h with so many cells and scale words
  abbrev pub AcceptsHead : Type 0
  AcceptsHead = (x y : MutBor (List ℕ)) → length x.now ≡ cells → length y.now ≡ scales → g.pre f (h, (x, (y, tt)))

  -- and leaves these in their place
  abbrev pub LeavesHead : List ℕ → List ℕ → Type 0
  LeavesHead row row' =
      (x y x' y' : MutBor (List ℕ)) → length x.now ≡ cells → length y.now ≡ scales → g.post f (h, (x, (y, tt))) (tt, (x', (y', tt)))
      → (x'.now ≡ row) × (y'.now ≡ row')
