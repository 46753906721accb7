-- Texts put one after the other are one text: what the second leaves in place is the buffer up to its start, the first text included.
use mathlib.Core.Path.{◌≡◌, ap, ◌∙◌}
use mathlib.Core.List.{List, [], ◌++◌, append_assoc}
use Prim.Native.Nat.{ℕ, ◌+◌, ◌-◌, ◌≤◌}
use native.Mathlib.Nat.{add-zero, add_assoc}
use native.Mathlib.Omega.{arith}
use lib.ListN.{length, take, drop, length-append, length-drop, take-append-drop}
use lib.Seq.{length-take-le, take_at, drop_at, drop-drop}
use borrow.Rule.Slice.PartMut.{put_mid}
use Rattle.printing.specs.Place.{over, Placed}

over_length : (at : ℕ) (t b : List ℕ) → at + length t ≤ length b → length (over at t b) ≡ length b
unfolding over
over_length at t b h =
    let s : at ≤ length b = omega arith in
    simp (length-append, length-take-le at b s, length-drop) (omega arith)

over_over : (at : ℕ) (t u b : List ℕ) → at ≤ length b → over (at + length t) u (over at t b) ≡ over at (t ++ u) b
unfolding over
over_over at t u b h =
    let s : length (take at b ++ t) ≡ at + length t = rw (length-append, length-take-le at b h) in
    let q : take at b ++ (t ++ drop (at + length t) b) ≡ (take at b ++ t) ++ drop (at + length t) b = rw append_assoc in
    rw (q, take_at, ← drop-drop (length u) (at + length t) (_ ++ _), drop_at, drop-drop, length-append, add_assoc) (simp append_assoc)

-- nothing put, a text copied to its place, and one text after another
pub placed_none : (at : ℕ) (b : List ℕ) → Placed at [] b at b
unfolding over
placed_none at b = record { place = rw add-zero; out = rw (add-zero, take-append-drop) }

pub placed_copy : {end : ℕ} (at : ℕ) (t b : List ℕ) → end ≡ at + length t → Placed at t b end (put_mid at (end - at) b t)
unfolding over
placed_copy at t b e = let k : at + (at + length t - at) ≡ at + length t = omega arith in record { place = e; out = rw (e, drop-drop, k) }

pub placed_then : {at end last : ℕ} {t u b m a : List ℕ} → Placed at t b end m → Placed end u m last a → at ≤ length b
    → Placed at (t ++ u) b last a
placed_then {at} {t = t} {u} {b} p q h =
    record {
      place = let e = p.place in let f = q.place in rw length-append (omega arith);
      out = q.out ∙ rw (p.place, p.out) (over_over at t u b h);
    }

pub placed_length : {at end : ℕ} {t b m : List ℕ} → Placed at t b end m → end ≤ length b → length m ≡ length b
placed_length {at} {end} {t} {b} p h = let e = p.place in ap length p.out ∙ over_length at t b (omega arith)
