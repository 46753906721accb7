-- A call that tests an answer by its number n, which is r: what it leaves, and which refusal is its lowest.
-- Each holds since n is the lowest of the refusals that r was asked of.
use mathlib.Core.Path.{◌≡◌, refl, sym, ◌∙◌}
use mathlib.Core.Bool.{Bool, true, false, cond}
use mathlib.Core.List.{List, ◌++◌}
use Prim.Native.Nat.{ℕ}
use lib.Dec.{eqb}
use borrow.Author.Tests.{eqb-true, eqb-false}
use Rattle.replies.specs.Outcome.{Case, lowest, outcome}
use Rattle.replies.proofs.Refusals.{rising, still_passed, still_refused, lowest_none, passed_before, refused_before, outcome-done, outcome_refused}

module _ (a : List Case) {r n : ℕ} (e : r ≡ lowest a) (q : n ≡ r) where
  -- done or refused by it
  pub call_done : {A : Type 0} {new result : A} (old : A) → n ≡ 0 → result ≡ new → record { reply = r; result = result } ≡ outcome a new old
  call_done {new = new} old z w = rw (outcome-done a new old (still_passed q e z), w, sym q ∙ z)

  pub call_refused : {A : Type 0} {old : A} (new : A) → (n ≡ 0 → ⊥) → record { reply = r; result = old } ≡ outcome a new old
  call_refused {old = old} new h = rw (outcome_refused a new old (still_refused q e h), e)

  -- refused, it is the lowest before all that follow; passed, it hands on to them
  pub first_refused : (b : List Case) → (n ≡ 0 → ⊥) → r ≡ lowest (a ++ b)
  first_refused b h = e ∙ sym (refused_before a b (still_refused q e h))

  pub first_passed : (b : List Case) {x : ℕ} → rising 0 a ≡ true → n ≡ 0 → x ≡ lowest b → x ≡ lowest (a ++ b)
  first_passed b t z w = w ∙ sym (passed_before a b (lowest_none 0 a t (still_passed q e z)))

-- the first of two replies is the lowest of both lists
pub first_lowest : (a b : List Case) {r x : ℕ} → rising 0 a ≡ true → r ≡ lowest a → x ≡ lowest b → cond (eqb r 0) x r ≡ lowest (a ++ b)
first_lowest a b {r} {x} t e w = by (eqb r 0) refl
  where
    by : (z : Bool) → eqb r 0 ≡ z → cond z x r ≡ lowest (a ++ b)
    by true z = first_passed a e refl b t (eqb-true r 0 z) w
    by false z = first_refused a e refl b (eqb-false r 0 z)
