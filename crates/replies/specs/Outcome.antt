-- The lowest reply that applies, and what a call leaves: the paper's Lowest first and Refused, under Replies.
use Rattle.std.specs.Prelude.{ℕ, ◌≡◌, Bool, true, false, cond, List, [], ◌∷◌, eqb, Result}
use Rattle.replies.specs.Reply.{reply_number}
use Rattle.replies.specs.declared.Refusal.{Refusal}

infix 30 ◌when◌
-- a number of the table, and whether its condition holds of a call
pub data Case : Type 0 where
  ◌when◌ : ℕ → Bool → Case

-- the number of the first that holds, or 0; a call's refusals stand by rising number
unfoldable pub lowest : List Case → ℕ
lowest [] = 0
lowest ((n when holds) ∷ others) = cond holds n (lowest others)

-- the paper's "exactly when": the condition of n holds and none before it does; of 0, none holds
abbrev pub Here : Bool → Bool → Type 0 → Type 0
Here true holds further = holds ≡ true
Here false holds further = (holds ≡ false) × further

abbrev pub Applies : ℕ → List Case → Type 0
Applies n [] = n ≡ 0
Applies n ((m when holds) ∷ others) = Here (eqb n m) holds (Applies n others)

-- a reply's number, and what the call leaves of what it may change
pub record Outcome (A : Type 0) : Type 0 where
  pub reply : ℕ
  pub result : A

abbrev pub answered : {A B : Type 0} → Result B Refusal → A → Outcome A
answered r result = record { reply = reply_number r; result = result }

-- done, a call leaves what is new; refused, what was there
unfoldable pub outcome : {A : Type 0} → List Case → A → A → Outcome A
outcome refusals new old = record { reply = lowest refusals; result = cond (eqb (lowest refusals) 0) new old }
