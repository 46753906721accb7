-- The record and its 134 words say the same, both ways, so that a statement on the record fixes each word.
-- Each holds since the words are six fields and then the lengths, as they stand in the record.
use mathlib.Core.Path.{◌≡◌, refl, sym, ap, ◌∙◌}
use mathlib.Core.Bool.{Bool, true, false, cond, not}
use mathlib.Core.List.{List, [], ◌∷◌}
use Prim.Native.Nat.{ℕ}
use native.Mathlib.Omega.{arith}
use lib.Dec.{eqb}
use lib.ListN.{length}
use lib.Seq.{drop-cons}
use Rattle.std.specs.Prelude.{Result, Ok, Err}
use Rattle.std.specs.Result.{result_unwrap_or}
use Rattle.replies.specs.declared.Refusal.{Refusal}
use Rattle.replies.specs.Reply.{reply_number}
use Rattle.replies.specs.Outcome.{◌when◌, Outcome, outcome, lowest}
use Rattle.shapes.specs.Shape.{within, need_of, cell_total, scale_total}
use Rattle.shapes.specs.declared.Need.{Need}
use Rattle.shapes.specs.declared.Shape.{Shape}
use Rattle.shapes.specs.Buffers.{Buffers, buffers}
use Rattle.store.specs.Record.{new_record_of}
use Rattle.store.specs.Calls.{Store, store, no_shape, opened, counted}
use Rattle.store.specs.declared.Record.{Record}
use Rattle.host.specs.Words.{record_from, record_words, need, need_replied, seen, replied}

-- the words of a record, as a record
pub record-words : (r : Record) → record_from (record_words r) ≡ r
record-words r = refl

-- the record of words, as words
pub words_record : (w : List ℕ) → length w ≡ 134 → record_words (record_from w) ≡ w
words_record w e =
    rw (
      ← drop-cons w 5 0 (omega arith),
      ← drop-cons w 4 0 (omega arith),
      ← drop-cons w 3 0 (omega arith),
      ← drop-cons w 2 0 (omega arith),
      ← drop-cons w 1 0 (omega arith),
      ← drop-cons w 0 0 (omega arith),
    )

-- one record, one list of words
pub same-words : (w w' : List ℕ) → length w ≡ 134 → length w' ≡ 134 → record_from w ≡ record_from w' → w ≡ w'
same-words w w' e e' q = sym (words_record w e) ∙ ap record_words q ∙ words_record w' e'

-- what the store answers and leaves is what the host is replied, and sees where a record comes back as words
pub as_told : {A : Type 0} {n m : ℕ} {x y : A} {o : Outcome A} → n ≡ m → x ≡ y → replied m y ≡ o → replied n x ≡ o
as_told p q e = rw (p, q) e

pub as_seen : {n m : ℕ} {w w' cells scales : List ℕ} {o : Outcome Store} → n ≡ m → w ≡ w' → seen m w' cells scales ≡ o
    → seen n w cells scales ≡ o
as_seen {cells = cells} {scales = scales} p q e = as_told p (ap (λ (l : List ℕ). store (record_from l) (buffers cells scales)) q) e

-- what a shape is replied of its need: nothing outside the limits
pub need_told : (s : Shape) {n : ℕ} {x : Need} → n ≡ lowest ((1 when not (within s)) ∷ []) → x ≡ need_of s → replied n x ≡ need_replied s
unfolding need_replied outcome lowest need_of
need_told s e q = rw (e, q, either (within s))
  where
    either : (t : Bool)
        → ◌≡◌ {A = Outcome Need} (record { reply = cond (not t) 1 0; result = record { cells = cond t (cell_total s) 0; scales = cond t (scale_total s) 0 } })
        (record { reply = cond (not t) 1 0; result = cond (eqb (cond (not t) 1 0) 0) (need (cell_total s) (scale_total s)) (need 0 0) })
    either true = refl
    either false = refl

-- what is opened and counted, as it is told
pub opened_told : (r : Result Record Refusal) (b : Buffers) {t : Record} → t ≡ result_unwrap_or r (new_record_of no_shape) → replied (reply_number r) (store t b) ≡ opened r b
opened_told (Ok t) b e = rw e
opened_told (Err x) b e = rw e

pub counted_told : (r : Result ℕ Refusal) {n : ℕ} → n ≡ result_unwrap_or r 0 → replied (reply_number r) n ≡ counted r
counted_told (Ok n) e = rw e
counted_told (Err x) e = rw e
