-- Two answers that one statement admits are the same answer: the number of a reply tells which reply it is.
use mathlib.Core.Path.{◌≡◌, refl, sym, ap, ◌∙◌}
use mathlib.Core.List.{[], ◌∷◌}
use Prim.Native.Nat.{ℕ}
use lib.ListN.{get_or}
use Rattle.std.specs.Prelude.{Result, Ok, Err, ⊤}
use Rattle.replies.specs.declared.Refusal.{Refusal}
use Rattle.replies.specs.declared.Refusal.TheVariants.{Shape, Room, Lengths, Layer, Head, Format, Size, Position, Full, Sequence}
use Rattle.replies.specs.Reply.{reply_number}
use Rattle.replies.specs.Outcome.{Outcome, answered}
use Rattle.replies.proofs.Tested.{not_done}

reply_of : ℕ → Result ⊤ Refusal
reply_of n = get_or (Ok tt ∷ Err Shape ∷ Err Room ∷ Err Lengths ∷ Err Layer ∷ Err Head ∷ Err Format ∷ Err Size ∷ Err Position ∷ Err Full ∷ []) n (Err Sequence)

back : (r : Result ⊤ Refusal) → reply_of (reply_number r) ≡ r
unfolding reply_of
back (Ok tt) = refl
back (Err Shape) = refl
back (Err Room) = refl
back (Err Lengths) = refl
back (Err Layer) = refl
back (Err Head) = refl
back (Err Format) = refl
back (Err Size) = refl
back (Err Position) = refl
back (Err Full) = refl
back (Err Sequence) = refl

pub same_reply : (r r' : Result ⊤ Refusal) → reply_number r ≡ reply_number r' → r ≡ r'
same_reply r r' e = sym (back r) ∙ ap reply_of e ∙ back r'

-- whatever a call may answer and leave under a statement o, it answers and leaves one thing
abbrev pub One : {A : Type 0} → Outcome A → Type 0
One {A} o = (r r' : Result ⊤ Refusal) (x x' : A) → answered r x ≡ o → answered r' x' ≡ o → (r ≡ r') × (x ≡ x')

pub coincide : {A : Type 0} (o : Outcome A) → One o
coincide {A} o r r' x x' e e' =
    let q = e ∙ sym e' in
    (same_reply r r' (ap (λ (o : Outcome A). o.reply) q), ap (λ (o : Outcome A). o.result) q)

-- of answers with a value x, which is d where they are refused: the number and x tell which answer it is
abbrev pub value : {A : Type 0} → A → Result A Refusal → A
value d (Ok x) = x
value d (Err e) = d

pub same_value : {A : Type 0} (d : A) (a a' : Result A Refusal) → reply_number a ≡ reply_number a' → value d a ≡ value d a' → a ≡ a'
same_value d (Ok x) (Ok x') e q = ap (λ (y : _). Ok y) q
same_value d (Ok x) (Err y) e q = absurd (not_done y (sym e))
same_value d (Err x) (Ok y) e q = absurd (not_done x e)
same_value {A} d (Err x) (Err x') e q = ap refused (same_reply (Err x) (Err x') e)
  where
    refused : Result ⊤ Refusal → Result A Refusal
    refused (Ok t) = Ok d
    refused (Err x) = Err x
