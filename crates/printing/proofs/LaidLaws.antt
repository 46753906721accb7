-- A line at an offset: laid where it has room, and nothing where it has none. At the start of a buffer it is the text and what was behind it.
-- Each holds by the definition, at either answer of the test for room.
use mathlib.Core.Path.{◌≡◌, refl, sym, ap, ◌∙◌}
use mathlib.Core.Bool.{Bool, true, false}
use mathlib.Core.List.{List, []}
use Prim.Native.Nat.{ℕ, ◌+◌, ◌≤◌}
use native.Mathlib.Nat.{zero-add}
use native.Mathlib.Omega.{arith}
use lib.Dec.{leb}
use lib.ListN.{length, drop, length-append}
use borrow.Author.Tests.{leb-true, le-leb}
use Rattle.printing.specs.Place.{over, Placed}
use Rattle.printing.specs.Text.{Laid, laid, laid_at}
use Rattle.printing.proofs.PlaceLaws.{placed_none}

-- the test for room, passed
pub has_room : (at size : ℕ) {r : Bool} → r ≡ leb (at + 2048) size → r ≡ true → at + 2048 ≤ size
has_room at size e t = leb-true (at + 2048) size (sym e ∙ t)

-- with room
pub laid_there : (at : ℕ) (t b : List ℕ) → at + 2048 ≤ length b
    → laid_at at t b ≡ record { count = at + length t; out = over at t b }
unfolding laid_at
laid_there at t b h = rw (le-leb (at + 2048) (length b) h)

pub placed_laid_at : {at end : ℕ} {t b a : List ℕ} → at + 2048 ≤ length b → Placed at t b end a
    → ◌≡◌ {A = Laid} (record { count = end; out = a }) (laid_at at t b)
placed_laid_at {at} {t = t} {b} h p = rw (laid_there at t b h, p.place, p.out)

-- without
pub none_laid : (at : ℕ) (t b : List ℕ) {r : Bool} → r ≡ leb (at + 2048) (length b) → r ≡ false
    → ◌≡◌ {A = Laid} (record { count = at; out = b }) (laid_at at t b)
unfolding laid_at
none_laid at t b e n = rw (← e, n)

-- at the start of a buffer
pub placed_laid : {end : ℕ} {t b a : List ℕ} → Placed 0 t b end a → ◌≡◌ {A = Laid} (record { count = end; out = a }) (laid t b)
unfolding over
placed_laid p = rw (p.place, p.out, zero-add)

pub laid_first : (t b : List ℕ) → 2048 ≤ length b → laid_at 0 t b ≡ laid t b
laid_first t b h = laid_there 0 t b (omega arith) ∙ placed_laid (record { place = refl; out = refl })

-- no text, with room or without
laid_none_by : (at : ℕ) (b : List ℕ) (t : Bool) → leb (at + 2048) (length b) ≡ t → ◌≡◌ {A = Laid} (record { count = at; out = b }) (laid_at at [] b)
laid_none_by at b true e = placed_laid_at (leb-true (at + 2048) (length b) e) (placed_none at b)
laid_none_by at b false e = none_laid at [] b (sym e) refl

pub laid_none : (at : ℕ) (b : List ℕ) → ◌≡◌ {A = Laid} (record { count = at; out = b }) (laid_at at [] b)
laid_none at b = laid_none_by at b _ refl

-- a text that was laid lies in the buffer
pub laid_in : (t b : List ℕ) {n : ℕ} {a : List ℕ} → ◌≡◌ {A = Laid} (record { count = n; out = a }) (laid t b) → n ≤ length a
laid_in t b {n} {a} e =
    let c : n ≡ length t = ap (λ (l : Laid). l.count) e in
    let o : length a ≡ length t + length (drop (length t) b) = rw (← length-append) (ap (λ (l : Laid). length l.out) e) in
    omega arith

-- of what a line's statement admits there is one count and one buffer
pub laid_determined : (l : Laid) {n n' : ℕ} {a a' : List ℕ} → ◌≡◌ {A = Laid} (record { count = n; out = a }) l
    → ◌≡◌ {A = Laid} (record { count = n'; out = a' }) l → (n ≡ n') × (a ≡ a')
laid_determined l e e' = let q = e ∙ sym e' in (ap (λ (x : Laid). x.count) q, ap (λ (x : Laid). x.out) q)
