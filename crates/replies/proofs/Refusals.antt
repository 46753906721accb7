-- What the lowest refusal of a list says of its conditions, both ways, and what a call leaves in each case.
-- Each holds by going through the list: a condition that holds ends the search.
use mathlib.Core.Path.{◌≡◌, refl, sym, ap, ◌∙◌, subst}
use mathlib.Core.Bool.{Bool, true, false, cond, ◌&&◌}
use mathlib.Core.List.{List, [], ◌∷◌, ◌++◌}
use mathlib.Core.Logic.{◌↔◌}
use Prim.Native.Nat.{ℕ, ◌≤◌, ◌<◌}
use native.Mathlib.Omega.{arith}
use lib.Dec.{eqb, ltb}
use borrow.Author.Tests.{ltb-true, eqb-true, eq-eqb, ne_eqb}
use Rattle.replies.proofs.Flags.{both}
use Rattle.replies.specs.Outcome.{Case, ◌when◌, lowest, Applies, Here, Outcome, outcome}

-- the numbers rise from above m
abbrev pub rising : ℕ → List Case → Bool
rising m [] = true
rising m ((n when holds) ∷ others) = ltb m n && rising n others

-- no condition holds
abbrev pub None : List Case → Type 0
None [] = Unit
None ((n when holds) ∷ others) = (holds ≡ false) × None others

-- the first number is above m, and the others rise from it
rises : (m n : ℕ) (holds : Bool) (a : List Case) → rising m ((n when holds) ∷ a) ≡ true → (m < n) × (rising n a ≡ true)
rises m n holds a r = let t = both (ltb m n) (rising n a) r in (ltb-true m n t.0, t.1)

-- a list of which none holds gives no number, and hands on to what stands after it
pub none_lowest : (a : List Case) → None a → lowest a ≡ 0
unfolding lowest
none_lowest [] h = refl
none_lowest ((n when holds) ∷ a) h = rw h.0 (none_lowest a h.1)

pub passed_before : (a b : List Case) → None a → lowest (a ++ b) ≡ lowest b
unfolding lowest
passed_before [] b h = refl
passed_before ((n when holds) ∷ a) b h = rw h.0 (passed_before a b h.1)

-- a list of which one holds gives its number whatever stands after it
pub refused_before : (a b : List Case) → (lowest a ≡ 0 → ⊥) → lowest (a ++ b) ≡ lowest a
unfolding lowest
refused_before [] b h = absurd (h refl)
refused_before ((n when true) ∷ a) b h = refl
refused_before ((n when false) ∷ a) b h = refused_before a b h

-- rising numbers: 0 says that none holds
pub lowest_none : (m : ℕ) (a : List Case) → rising m a ≡ true → lowest a ≡ 0 → None a
unfolding lowest
lowest_none m [] r h = tt
lowest_none m ((n when true) ∷ a) r h = absurd (omega (arith, (rises m n true a r).0))
lowest_none m ((n when false) ∷ a) r h = (refl, lowest_none n a (rises m n false a r).1 h)

-- from numbers above m nothing up to m is given but 0
lowest_over : (m k : ℕ) (a : List Case) → rising m a ≡ true → lowest a ≡ k → k ≤ m → k ≡ 0
unfolding lowest
lowest_over m k [] r h b = sym h
lowest_over m k ((n when true) ∷ a) r h b = absurd (omega (arith, (rises m n true a r).0))
lowest_over m k ((n when false) ∷ a) r h b =
    let s = rises m n false a r in lowest_over n k a s.1 h (omega arith)

-- the number that is given applies
given : (m : ℕ) (a : List Case) → rising m a ≡ true → Applies (lowest a) a
unfolding lowest
given m [] r = refl
given m ((n when true) ∷ a) r = rw (eq-eqb n n refl)
given m ((n when false) ∷ a) r =
    let s = rises m n false a r in
    let d : (lowest a ≡ n → ⊥) = λ e. omega (arith, lowest_over n n a s.1 e (omega arith)) in
    rw (ne_eqb (lowest a) n d) (refl, given n a s.1)

-- at the first refusal, by whether its number is n: x is what the others give
at_head : (n k x : ℕ) (holds : Bool) (P : Type 0) → (P → x ≡ n) → (t : Bool) → eqb n k ≡ t → Here t holds P → cond holds k x ≡ n
at_head n k x holds P f true e h = rw h (sym (eqb-true n k e))
at_head n k x holds P f false e h = rw h.0 (f h.1)

-- the number that applies is given
only : (n : ℕ) (a : List Case) → Applies n a → lowest a ≡ n
unfolding lowest
only n [] h = sym h
only n ((k when holds) ∷ a) h = at_head n k (lowest a) holds (Applies n a) (only n a) (eqb n k) refl h

-- the reply is n exactly when n applies
pub exactly : (m n : ℕ) (a : List Case) → rising m a ≡ true → (lowest a ≡ n) ↔ Applies n a
exactly m n a r = (λ e. subst (λ (k : ℕ). Applies k a) e (given m a r), only n a)

-- what a call leaves, done and refused
pub outcome-done : {A : Type 0} (a : List Case) (new old : A) → lowest a ≡ 0 → outcome a new old ≡ record { reply = 0; result = new }
unfolding outcome
outcome-done a new old h = rw h

pub outcome_refused : {A : Type 0} (a : List Case) (new old : A) → (lowest a ≡ 0 → ⊥)
    → outcome a new old ≡ record { reply = lowest a; result = old }
unfolding outcome
outcome_refused a new old h = rw (ne_eqb (lowest a) 0 h)

-- what a test of a reply's number, n, says of the refusals that the reply is the lowest of
pub still_refused : {n m k : ℕ} → n ≡ m → m ≡ k → (n ≡ 0 → ⊥) → k ≡ 0 → ⊥
still_refused e f h z = h (e ∙ f ∙ z)

pub still_passed : {n m k : ℕ} → n ≡ m → m ≡ k → n ≡ 0 → k ≡ 0
still_passed e f z = sym (e ∙ f) ∙ z

-- the number that an outcome gives
pub given_number : {A : Type 0} (a : List Case) (new old : A) {r : ℕ} {x : A} → record { reply = r; result = x } ≡ outcome a new old → r ≡ lowest a
unfolding outcome
given_number a new old e = ap (λ (o : Outcome _). o.reply) e
