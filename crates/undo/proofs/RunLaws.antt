-- A run of calls: each call leaves a store with the rows that it keeps, and so does the run.
-- It holds call by call: accepted, by the laws of the store; refused, since the store is as it was.
use mathlib.Core.Path.{◌≡◌, refl, subst}
use mathlib.Core.Bool.{Bool, true, false, cond, not}
use mathlib.Core.List.{List, [], ◌∷◌, ◌++◌}
use Prim.Native.Nat.{ℕ, ◌+◌}
use lib.Dec.{eqb, leb}
use lib.ListN.{length}
use borrow.Author.Tests.{ltb-true, leb-true, eqb-true, not-false}
use Rattle.replies.specs.Outcome.{Case, ◌when◌, lowest, outcome}
use Rattle.replies.proofs.Refusals.{None, rising, lowest_none}
use Rattle.shapes.specs.declared.Shape.{Shape}
use Rattle.shapes.specs.Buffers.{Buffers}
use Rattle.store.specs.declared.Record.{Record}
use Rattle.store.specs.Record.{seq_len_of, length_of, with_seq_len}
use Rattle.store.specs.Calls.{Store, store, store_refusals, record_refusals, append_refusals, remove_refusals, append_of, truncate_of, advance_of}
use Rattle.undo.specs.Sequence.{Call, append, truncate, advance, reads, does, run, if_accepted, accepted}
use Rattle.undo.specs.Survivors.{Rows, rows_after, rows_after_all}
use Rattle.undo.proofs.StoreLaws.{Renders}
use Rattle.undo.proofs.ChangeLaws.{append-done, truncate-done, advance-done}

-- rows that are the same layer by layer
renders_same : {s : Shape} {t : Store} {of of' : ℕ → Rows} → ((l : ℕ) → of l ≡ of' l) → Renders s t of → Renders s t of'
renders_same {s} {t} e x = subst (λ (f : ℕ → Rows). Renders s t f) (λ i l. e l i) x

-- what an accepted call leaves, and a refused one
either : {s : Shape} {f g : ℕ → Rows} {new old : Store} (flag : Bool) → (flag ≡ true → Renders s new f) → Renders s old g
    → Renders s (cond flag new old) (λ l. cond flag (f l) (g l))
either true x y = x refl
either false x y = y

outcome_renders : {s : Shape} {f g : ℕ → Rows} {new old : Store} (refusals : List Case) → rising 0 refusals ≡ true
    → (None refusals → Renders s new f) → Renders s old g → let flag = eqb (lowest refusals) 0 in Renders s (cond flag new old) (λ l. cond flag (f l) (g l))
outcome_renders refusals up x y = either (eqb (lowest refusals) 0) (λ h. x (lowest_none 0 refusals up (eqb-true _ 0 h))) y

-- after call c: the rows that it keeps where it is accepted, and all rows where it is refused
abbrev Steps : Shape → Store → (ℕ → Rows) → Call → Type 0
Steps s t of c = Renders s (does c t).result (λ l. cond (eqb (does c t).reply 0) (rows_after s l (of l) c) (of l))

module _ {r : Record} {b : Buffers} {of : ℕ → Rows} (x : Renders r.shape (store r b) of) where
  append_step : (l : ℕ) (keys values : List ℕ) → Steps r.shape (store r b) of (append l keys values)
  unfolding does append_of outcome
  append_step l keys values =
      let len = length_of r l in
      outcome_renders (store_refusals r b ++ append_refusals r.shape l len (length keys) (length values)) refl
      (λ z.
      let n = z.1.1.1 in
      append-done x l keys values (ltb-true l r.shape.layers (not-false _ n.0)) (not-false _ n.1.0) (leb-true _ _ (not-false _ n.1.1.0)))
      x

  truncate_step : (l n : ℕ) → Steps r.shape (store r b) of (truncate l n)
  unfolding does truncate_of outcome
  truncate_step l n =
      outcome_renders (store_refusals r b ++ remove_refusals r.shape l) refl
      (λ z. truncate-done x l n (ltb-true l r.shape.layers (not-false _ z.1.1.1.0))) x

  -- a call that keeps every row
  kept_all : {t : Store} (flag : Bool) → Renders r.shape t of → Renders r.shape t (λ l. cond flag (of l) (of l))
  kept_all true y = y
  kept_all false y = y

  advanced : (flag : Bool) (n : ℕ) → Renders r.shape (store (cond flag (with_seq_len r n) r) b) of
  advanced true n = advance-done x n
  advanced false n = x

  step_here : (c : Call) → Steps r.shape (store r b) of c
  unfolding does advance_of outcome
  step_here (append l keys values) = append_step l keys values
  step_here (truncate l n) = truncate_step l n
  step_here (advance count) =
      let flag = eqb (lowest (record_refusals r ++ ((10 when not (leb (seq_len_of r + count) 4294967295)) ∷ []))) 0 in
      kept_all flag (advanced flag (seq_len_of r + count))
  step_here (reads reply) = kept_all (eqb (reply (store r b)) 0) x

-- one call
pub step : {s : Shape} {t : Store} {of : ℕ → Rows} (c : Call) → Renders s t of → Steps s t of c
step {s} {t} {of} c x = subst (λ (s : Shape). Renders s t of → Steps s t of c) x.shape_is (λ y. step_here {r = t.rec} {b = t.memory} y c) x

-- a run of calls
kept_next : (s : Shape) (l : ℕ) (r : Rows) (c : Call) (others : List Call) (flag : Bool)
    → rows_after_all s l (cond flag (rows_after s l r c) r) others ≡ rows_after_all s l r (if_accepted flag c others)
unfolding rows_after_all
kept_next s l r c others true = refl
kept_next s l r c others false = refl

pub run_renders : {s : Shape} (calls : List Call) {t : Store} {of : ℕ → Rows} → Renders s t of
    → Renders s (run calls t) (λ l. rows_after_all s l (of l) (accepted calls t))
unfolding run accepted rows_after_all
run_renders [] x = x
run_renders {s} (c ∷ calls) {t} {of} x =
    renders_same (λ l. kept_next s l (of l) c (accepted calls (does c t).result) (eqb (does c t).reply 0)) (run_renders calls (step c x))
