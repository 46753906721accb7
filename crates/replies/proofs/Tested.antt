-- What an answer r, whose number is the lowest of some refusals, says of them: done, none holds; refused, one does and `?` hands it on.
use mathlib.Core.Path.{◌≡◌, refl, sym, ap, ◌∙◌}
use mathlib.Core.Bool.{Bool, true, false, not}
use mathlib.Core.List.{List, [], ◌∷◌, ◌++◌}
use Prim.Native.Nat.{ℕ}
use lib.Dec.{eqb}
use borrow.Author.Tests.{ne_eqb}
use Rattle.std.specs.Prelude.{Result, Ok, Err, IsErrAnd, is_ok, if◌then◌else◌, ⊤}
use Rattle.replies.specs.declared.Refusal.{Refusal}
use Rattle.replies.specs.declared.Refusal.TheVariants.{Shape, Room, Lengths, Layer, Head, Format, Size, Position, Full, Sequence}
use Rattle.replies.specs.Reply.{refusal_number, reply_number}
use Rattle.replies.specs.Outcome.{Case, ◌when◌, lowest, answered, outcome}
use Rattle.replies.proofs.Refusals.{rising}
use Rattle.replies.proofs.Numbered as by_number

-- no refusal has the number 0
pub not_done : (x : Refusal) → refusal_number x ≡ 0 → ⊥
not_done Shape e = cc
not_done Room e = cc
not_done Lengths e = cc
not_done Layer e = cc
not_done Head e = cc
not_done Format e = cc
not_done Size e = cc
not_done Position e = cc
not_done Full e = cc
not_done Sequence e = cc

-- a `?` hands a refusal on
pub handed_on : {A B : Type 0} {r : Result A Refusal} {x : Refusal} (s : Result B Refusal) → r ≡ Err x → IsErrAnd s (λ y. y ≡ x) → reply_number s ≡ reply_number r
handed_on (Ok b) e h = absurd h
handed_on (Err y) e h = rw (e, h)

-- whether an answer is no refusal
pub is_done : {A : Type 0} (r : Result A Refusal) {b : Bool} → b ≡ is_ok r → b ≡ eqb (reply_number r) 0
is_done (Ok x) e = e
is_done (Err x) e = e ∙ sym (ne_eqb _ 0 (not_done x))

module _ (a : List Case) {A : Type 0} {r : Result A Refusal} (e : reply_number r ≡ lowest a) where
  pub done : {x : A} → r ≡ Ok x → lowest a ≡ 0
  done w = sym e ∙ ap reply_number w

  refused : {x : Refusal} → r ≡ Err x → reply_number r ≡ 0 → ⊥
  refused {x} w z = not_done x (sym (ap reply_number w) ∙ z)

  -- refused, it is the lowest before all that follow; done, it hands on to them
  pub first_refused : {B : Type 0} {x : Refusal} (s : Result B Refusal) (b : List Case) → r ≡ Err x → IsErrAnd s (λ y. y ≡ x) → reply_number s ≡ lowest (a ++ b)
  first_refused s b w h = handed_on s w h ∙ by_number.first_refused a e refl b (refused w)

  pub first_passed : {x : A} {n : ℕ} (b : List Case) → rising 0 a ≡ true → r ≡ Ok x → n ≡ lowest b → n ≡ lowest (a ++ b)
  first_passed b t w q = by_number.first_passed a e refl b t (ap reply_number w) q

  -- what a call leaves that asks it first
  pub call_refused : {B C : Type 0} {x : Refusal} {old : C} (s : Result B Refusal) (new : C) → r ≡ Err x → IsErrAnd s (λ y. y ≡ x) → answered s old ≡ outcome a new old
  call_refused s new w h = rw (handed_on s w h) (by_number.call_refused a e refl new (refused w))

  pub call_done : {C : Type 0} {x : A} {new left : C} (old : C) → r ≡ Ok x → left ≡ new → record { reply = 0; result = left } ≡ outcome a new old
  call_done old w q = rw (ap reply_number w) at (by_number.call_done a e refl old (ap reply_number w) q)

-- a condition p that was required, tested as `holds`: what it answers, and that it holds where it is not refused
module _ {r : Result ⊤ Refusal} (x : Refusal) (holds : Bool) (e : r ≡ (if holds then Ok (tt {0}) else Err x)) where
  pub required : {p : Bool} → holds ≡ p → reply_number r ≡ lowest ((refusal_number x when not p) ∷ [])
  unfolding lowest
  required {p} q = rw (e, q) (either p)
    where
      either : (p : Bool) → reply_number (if p then Ok (tt {0}) else Err x) ≡ lowest ((refusal_number x when not p) ∷ [])
      either true = refl
      either false = refl

  pub held : {y : ⊤} → r ≡ Ok y → holds ≡ true
  held {y} w = by holds (sym e ∙ w)
    where
      by : (t : Bool) → (if t then Ok (tt {0}) else Err x) ≡ Ok y → t ≡ true
      by true q = refl
      by false q = cc

  -- refused, it did not hold, and that is what is handed on
  pub missed : {B : Type 0} {y : Refusal} (s : Result B Refusal) → r ≡ Err y → IsErrAnd s (λ z. z ≡ y) → (holds ≡ false) × (s ≡ Err x)
  missed {B = B} {y = y} s w h = let t = by holds (sym e ∙ w) in (t.0, err s (rw t.1 at h))
    where
      by : (t : Bool) → (if t then Ok (tt {0}) else Err x) ≡ Err y → (t ≡ false) × (y ≡ x)
      by true q = cc
      by false q = (refl, cc)

      err : (s : Result B Refusal) → IsErrAnd s (λ z. z ≡ x) → s ≡ Err x
      err (Ok b) h = absurd h
      err (Err z) h = rw h

  -- before other refusals: refused, it is the lowest; held, it hands on to them
  pub unmet : {p : Bool} {B : Type 0} {y : Refusal} (s : Result B Refusal) (b : List Case) → holds ≡ p → r ≡ Err y → IsErrAnd s (λ z. z ≡ y)
      → reply_number s ≡ lowest ((refusal_number x when not p) ∷ b)
  unmet {p} s b q w h = first_refused ((refusal_number x when not p) ∷ []) (required q) s b w h

  pub met : {p : Bool} {y : ⊤} {n : ℕ} (b : List Case) → holds ≡ p → r ≡ Ok y → n ≡ lowest b → n ≡ lowest ((refusal_number x when not p) ∷ b)
  unfolding lowest
  met b q w m = rw (← q, held w, m)
