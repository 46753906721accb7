-- Whatever a file being played may answer and leave under its statement, it answers and leaves one thing: place, count, record and every lent byte.
use mathlib.Core.Path.{◌≡◌, sym, ap, ◌∙◌}
use mathlib.Core.List.{List}
use Prim.Native.Nat.{ℕ}
use Rattle.store.specs.declared.Record.{Record}
use Rattle.printing.specs.Text.{Laid}
use Rattle.printing.proofs.LaidLaws.{laid_determined}
use Rattle.replay.specs.declared.Played.{Played}
use Rattle.replay.specs.Step.{Walk}
use Rattle.replay.specs.Transcript.{Play, played}

same_played : (a b : Played) → a.place ≡ b.place → a.count ≡ b.count → a.after ≡ b.after → a ≡ b
same_played a b p n r =
    ap (λ (x : ℕ). record { place = x; count = a.count; after = a.after }) p
    ∙ ap (λ (x : ℕ). record { place = b.place; count = x; after = a.after }) n
    ∙ ap (λ (x : Record). record { place = b.place; count = b.count; after = x }) r

-- a file played in lent room
pub play_in_determined : (o : Play) (a a' : Played) (c c' w w' t t' : List ℕ) → played a c w t ≡ o → played a' c' w' t' ≡ o
    → (a ≡ a') × (c ≡ c') × (w ≡ w') × (t ≡ t')
play_in_determined o a a' c c' w w' t t' e e' =
    let q = e ∙ sym e' in (
      same_played a a' (ap (λ (p : Play). p.last.place) q) (ap (λ (p : Play). p.text.count) q) (ap (λ (p : Play). p.last.cache.rec) q),
      ap (λ (p : Play). p.last.cache.memory.cells) q,
      ap (λ (p : Play). p.last.cache.memory.scales) q,
      ap (λ (p : Play). p.text.out) q,
    )

-- and in the room at hand, which nobody sees afterwards
pub play_determined : (l : Laid) (w : Walk) (a a' : Played) (t t' : List ℕ)
    → ◌≡◌ {A = Laid} (record { count = a.count; out = t }) l → (a.place ≡ w.place) × (a.after ≡ w.cache.rec)
    → ◌≡◌ {A = Laid} (record { count = a'.count; out = t' }) l → (a'.place ≡ w.place) × (a'.after ≡ w.cache.rec)
    → (a ≡ a') × (t ≡ t')
play_determined l w a a' t t' e (p, r) e' (p', r') =
    let q = laid_determined l e e' in
    (same_played a a' (p ∙ sym p') q.0 (r ∙ sym r'), q.1)
