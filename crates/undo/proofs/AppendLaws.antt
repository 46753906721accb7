-- One append for each layer: what layer l has after them, and that each is accepted by a store without rows.
-- Each holds by going through the layers: an append moves the rows of its own layer alone.
use mathlib.Core.Path.{◌≡◌, refl, sym, ap, ◌∙◌}
use mathlib.Core.Bool.{Bool, true, false, cond}
use mathlib.Core.List.{List, [], ◌∷◌, ◌++◌}
use Prim.Native.Nat.{ℕ, zero, suc, ◌+◌, ◌≤◌, ◌<◌}
use native.Mathlib.Nat.{zero-add, add-zero, add-suc, suc-add}
use native.Mathlib.Omega.{arith}
use lib.Dec.{eqb}
use lib.ListN.{length}
use borrow.Author.Tests.{lt-ltb, eqb-true, eqb-false, ne_eqb}
use Rattle.lists.specs.Chunks.{tab}
use Rattle.shapes.specs.declared.Shape.{Shape}
use Rattle.shapes.proofs.ShapeLaws.{within-limits, width_in}
use Rattle.store.specs.Record.{length_of}
use Rattle.store.specs.Calls.{Store}
use Rattle.undo.specs.Sequence.{Call, append, does, accepted}
use Rattle.undo.specs.Survivors.{Rows, no_rows, rows_of, keys_of, values_of, rows_after, rows_after_all, survivors, one_append_each}
use Rattle.undo.proofs.StoreLaws.{Renders, append-accepted}
use Rattle.undo.proofs.RunLaws.{step}
use Rattle.undo.proofs.NumberLaws.{keys_size, values_size, cut_again}

module _ (s : Shape) (of : ℕ → Rows) where
  -- the append of the rows of layer l, and n of them from layer a on
  abbrev one : ℕ → Call
  one l = append l (keys_of (of l)) (values_of (of l))

  unfoldable from : ℕ → ℕ → List Call
  from a zero = []
  from a (suc n) = one a ∷ from (suc a) n

  listed : (a n : ℕ) → tab n (λ i. one (a + i)) ≡ from a n
  unfolding tab from
  listed a zero = refl
  listed a (suc n) = simp (add-zero, add-suc) (ap (λ (calls : List Call). one a ∷ calls) (simp suc-add at (listed (suc a) n)))

  -- the rows of layer l after them: as they were where l is before a, and its own added where l is among them
  as_before : (l : ℕ) (r : Rows) (a n : ℕ) → l < a → rows_after_all s l r (from a n) ≡ r
  unfolding rows_after_all from
  as_before l r a zero w = refl
  as_before l r a (suc n) w = rw (ne_eqb a l (λ h. omega arith), rows_after_all) (as_before l r (suc a) n (omega arith))

  own_added : (l : ℕ) (r : Rows) (a n : ℕ) → a ≤ l → l < a + n → (flag : Bool) → eqb a l ≡ flag
      → rows_after_all s l r (from a n) ≡ r ++ rows_of s (keys_of (of l)) (values_of (of l))
  unfolding rows_after_all from
  own_added l r a zero w v flag q = absurd (omega arith)
  own_added l r a (suc n) w v true q = let d = eqb-true a l q in rw (q, rows_after_all, d) (as_before l _ (suc l) n (omega arith))
  own_added l r a (suc n) w v false q =
      let d = eqb-false a l q in
      rw (q, rows_after_all) (own_added l r (suc a) n (omega arith) (omega arith) (eqb (suc a) l) refl)

  -- the rows of a layer of store v fit, so that each is accepted by a store that has no rows from layer a on
  module _ {v : Store} (y : Renders s v of) where
    one_accepted : {t : Store} {now : ℕ → Rows} (a : ℕ) → Renders s t now → now a ≡ no_rows → a < s.layers → (does (one a) t).reply ≡ 0
    unfolding does
    one_accepted {t} a x e w =
        let n : length_of t.rec a ≡ 0 = sym (x.layer a).count ∙ ap length e in
        let q = (y.layer a).whole in
        let span : length_of v.rec a ≤ s.capacity = rw (lt-ltb a s.layers w) at (y.layer a).span in
        append-accepted x a (keys_of (of a)) (values_of (of a)) (length (of a)) w (keys_size q) (values_size q) (omega (arith, (y.layer a).count))

    all-accepted : (a n : ℕ) {t : Store} {now : ℕ → Rows} → a + n ≤ s.layers → Renders s t now → ((l : ℕ) → a ≤ l → now l ≡ no_rows)
        → accepted (from a n) t ≡ from a n
    unfolding accepted from
    all-accepted a zero w x none = refl
    all-accepted a (suc n) {t} {now} w x none =
        let r : (does (one a) t).reply ≡ 0 = one_accepted a x (none a (omega arith)) (omega arith) in
        let still : (l : ℕ) → suc a ≤ l → cond (eqb (does (one a) t).reply 0) (rows_after s l (now l) (one a)) (now l) ≡ no_rows =
        λ l b. rw (r, ne_eqb a l (λ h. omega arith)) (none l (omega arith)) in
        rw (r, all-accepted (suc a) n (omega arith) (step (one a) x) still)

    -- all layers, from a store without rows
    every : one_append_each s of ≡ from 0 s.layers
    every = simp zero-add at (listed 0 s.layers)

    pub own_rows : (l : ℕ) → l < s.layers → survivors s (one_append_each s of) l ≡ of l
    own_rows l w =
        rw (every, own_added l no_rows 0 s.layers (omega arith) (omega arith) (eqb 0 l) refl)
        (cut_again (y.layer l).whole (width_in s (within-limits s y.shape_in)).0)

    pub each-accepted : {t : Store} → Renders s t (λ l. no_rows) → accepted (one_append_each s of) t ≡ one_append_each s of
    each-accepted x = rw (every, all-accepted 0 s.layers (omega arith) x (λ l w. refl))
