-- What each part of a step answers, put together.
-- Each holds by the definition, at what the part before answered.
use mathlib.Core.Path.{◌≡◌, ap, ◌∙◌}
use mathlib.Core.List.{List, ◌++◌}
use Prim.Native.Nat.{ℕ, ◌+◌, ◌*◌, ◌≤◌}
use native.Mathlib.Omega.{arith}
use lib.ListN.{length, take, drop}
use lib.Seq.{take_at, length-take-le}
use Rattle.replies.specs.Outcome.{Outcome}
use Rattle.store.specs.Calls.{Store}
use Rattle.callfile.specs.declared.Entry.{Entry}
use Rattle.callfile.specs.Format.{words, entry_at_of, size_of, place_after, words_read}
use Rattle.callfile.proofs.FormatLaws.{words-length, words-read}
use Rattle.arena.specs.Calls.{append_in_of}
use Rattle.printing.specs.Place.{over}
use Rattle.printing.specs.Text.{Laid, laid_at}
use Rattle.printing.proofs.LaidLaws.{laid_there}
use Rattle.replay.specs.Step.{Printed, Effect, effect_of, walk, Step, step_of}
use Rattle.replay.specs.Transcript.{text_of, Play}
use Rattle.replay.specs.Turn.{turned}

-- a side of which the first n words, y, were read: its numbers
module _ (file : List ℕ) (at n : ℕ) (side y : List ℕ) (sized : 512 ≡ length side) (b : n ≤ 512) (f : at + 4 * n ≤ length file)
    (e : y ≡ words_read file at (take n side)) where
  first : length (take n side) ≡ n
  first = length-take-le n side (omega arith)

  read : y ≡ words n file at
  read =
      let g : at + 4 * length (take n side) ≤ length file = rw first f in
      e ∙ rw (words-read file at (take n side) g, first)

  pub side_read : take n (y ++ drop n side) ≡ words n file at
  side_read = rw read (take_at (words n file at) _ n (words-length n file at))

-- an append of what is lent of both sides
pub sides_lent : (n l : ℕ) (keys values : List ℕ) (cache : Store) {k v : List ℕ} {o : Outcome Store} → take n keys ≡ k → take n values ≡ v
    → o ≡ append_in_of l (take n keys) (take n values) cache → o ≡ append_in_of l k v cache
sides_lent n l keys values cache p q e = rw (← p, ← q) e

-- a step, by what stands at its place and what that does
pub step_done : (file : List ℕ) (at : ℕ) (cache : Store) {e : Entry} {line : Printed} {after : Store} {next : ℕ} → e ≡ entry_at_of file at
    → record { line = line; cache = after } ≡ effect_of file at e cache → next ≡ place_after file at
    → record { line = line; after = walk next after } ≡ step_of file (walk at cache)
unfolding step_of
step_done file at cache {e} p q n = rw (n, ← p) (ap (λ (x : Effect). record { line = x.line; after = walk (at + size_of e) x.cache }) q)

-- a turn, by the step and by the line that is laid
pub turn_done : (file : List ℕ) (p : Play) {e : Entry} {line : Printed} {after : Store} {next : ℕ} {text : Laid} → e ≡ entry_at_of file p.last.place
    → record { line = line; cache = after } ≡ effect_of file p.last.place e p.last.cache → next ≡ p.last.place + size_of e
    → text ≡ laid_at p.text.count (text_of line) p.text.out → p.text.count + 2048 ≤ length p.text.out
    → record { last = walk next after; text = text } ≡ turned file p
turn_done file p {line = line} {after} {next} x q n t h =
    let at = p.text.count in
    let out = p.text.out in
    let s = step_done file p.last.place p.last.cache x q (rw x at n) in
    ap (λ (l : Laid). record { last = walk next after; text = l }) (t ∙ laid_there at (text_of line) out h)
    ∙ ap (λ (s : Step). record { last = s.after; text = record { count = at + length (text_of s.line); out = over at (text_of s.line) out } }) s
