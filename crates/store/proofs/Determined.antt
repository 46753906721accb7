-- Whatever a call may answer and leave under its statement, it answers and leaves one thing: record, buffers, count and output too.
-- Each holds by the one theorem on answers, at what the call may change.
use mathlib.Core.Path.{◌≡◌, refl, sym, ap, ◌∙◌}
use mathlib.Core.List.{List}
use Prim.Native.Nat.{ℕ}
use Rattle.std.specs.Prelude.{Result, Ok, Err, ⊤}
use Rattle.replies.specs.Outcome.{Outcome, answered}
use Rattle.replies.specs.Reply.{reply_number}
use Rattle.replies.specs.declared.Refusal.{Refusal}
use Rattle.replies.proofs.Coincide.{One, coincide, value, same_value}
use Rattle.shapes.specs.declared.Shape.{Shape}
use Rattle.shapes.specs.Buffers.{Buffers, buffers}
use Rattle.store.specs.declared.Record.{Record}
use Rattle.store.specs.Record.{new_record_of}
use Rattle.store.specs.Calls.{Store, store, no_shape, opened, counted, open_of, append_of, truncate_of, advance_of, cached_len_of, memory_bytes_of, read_of}

-- one answer, one record and one content of both buffers meet a statement; one answer with its record and one content; one answer and record; one answer with its count
abbrev pub OneStore : Outcome Store → Type 0
OneStore o =
    (r r' : Result ⊤ Refusal) (t t' : Record) (c c' w w' : List ℕ) → answered r (store t (buffers c w)) ≡ o → answered r' (store t' (buffers c' w')) ≡ o
    → (r ≡ r') × (t ≡ t') × (c ≡ c') × (w ≡ w')

abbrev pub OneOpened : Outcome Store → Type 0
OneOpened o =
    (r r' : Result Record Refusal) (c c' w w' : List ℕ) → opened r (buffers c w) ≡ o → opened r' (buffers c' w') ≡ o → (r ≡ r') × (c ≡ c') × (w ≡ w')

abbrev pub OneCount : Outcome ℕ → Type 0
OneCount o = (r r' : Result ℕ Refusal) → counted r ≡ o → counted r' ≡ o → r ≡ r'

pub one_store : (o : Outcome Store) → OneStore o
one_store o r r' t t' c c' w w' e e' =
    let s = coincide o r r' _ _ e e' in
    (s.0, ap (λ (x : Store). x.rec) s.1, ap (λ (x : Store). x.memory.cells) s.1, ap (λ (x : Store). x.memory.scales) s.1)

as_opened : (r : Result Record Refusal) (b : Buffers) → opened r b ≡ record { reply = reply_number r; result = store (value (new_record_of no_shape) r) b }
as_opened (Ok t) b = refl
as_opened (Err x) b = refl

one_opened : (o : Outcome Store) → OneOpened o
one_opened o r r' c c' w w' e e' =
    let q = sym (as_opened r (buffers c w)) ∙ e ∙ sym e' ∙ as_opened r' (buffers c' w') in (
      same_value (new_record_of no_shape) r r' (ap (λ (x : Outcome Store). x.reply) q) (ap (λ (x : Outcome Store). x.result.rec) q),
      ap (λ (x : Outcome Store). x.result.memory.cells) q,
      ap (λ (x : Outcome Store). x.result.memory.scales) q,
    )

as_counted : (r : Result ℕ Refusal) → counted r ≡ record { reply = reply_number r; result = value 0 r }
as_counted (Ok n) = refl
as_counted (Err x) = refl

one_count : (o : Outcome ℕ) → OneCount o
one_count o r r' e e' =
    let q = sym (as_counted r) ∙ e ∙ sym e' ∙ as_counted r' in
    same_value 0 r r' (ap (λ (x : Outcome ℕ). x.reply) q) (ap (λ (x : Outcome ℕ). x.result) q)

-- each call
pub open_determined : (s : Shape) (b : Buffers) → OneOpened (open_of s b)
open_determined s b = one_opened (open_of s b)

module _ (r : Record) where
  pub append_determined : (b : Buffers) (l : ℕ) (keys values : List ℕ) → OneStore (append_of r b l keys values)
  append_determined b l keys values = one_store (append_of r b l keys values)

  pub truncate_determined : (b : Buffers) (l t : ℕ) → OneStore (truncate_of r b l t)
  truncate_determined b l t = one_store (truncate_of r b l t)

  pub advance_determined : (count : ℕ) → One (advance_of r count)
  advance_determined count = coincide (advance_of r count)

  pub cached_len_determined : (l : ℕ) → OneCount (cached_len_of r l)
  cached_len_determined l = one_count (cached_len_of r l)

  pub memory-bytes_determined : OneCount (memory_bytes_of r)
  memory-bytes_determined = one_count (memory_bytes_of r)

  pub read_determined : (b : Buffers) (l side h p : ℕ) (out : List ℕ) → One (read_of r b l side h p out)
  read_determined b l side h p out = coincide (read_of r b l side h p out)
