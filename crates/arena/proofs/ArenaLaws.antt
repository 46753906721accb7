-- What is lent of the room at hand and given back.
-- A list cut at the shorter of need and length is cut at the need, since it has nothing behind its end.
use mathlib.Core.Path.{◌≡◌, refl, sym, ap, ◌∙◌}
use mathlib.Core.Bool.{Bool, true, false}
use mathlib.Core.List.{List, ◌++◌}
use Prim.Native.Nat.{ℕ, ◌≤◌, min}
use native.Mathlib.Omega.{arith}
use lib.Dec.{ltb}
use lib.ListN.{length, take, drop, drop_of_length-le, take-append-drop}
use lib.Seq.{take_all}
use borrow.Author.Tests.{ltb-true, ltb-false, eq-eqb, ne_eqb}
use Rattle.replies.specs.Outcome.{Outcome}
use Rattle.replies.proofs.Refusals.{given_number, outcome_refused}
use Rattle.shapes.specs.Shape.{need_of}
use Rattle.shapes.specs.declared.Need.{Need}
use Rattle.shapes.specs.declared.Shape.{Shape}
use Rattle.shapes.specs.Buffers.{Buffers, buffers}
use Rattle.store.specs.declared.Record.{Record}
use Rattle.store.specs.Calls.{Store, store, open_of}
use Rattle.arena.specs.Calls.{given_back_of, in_room, open_in}

cut_at : (n : ℕ) (l : List ℕ) {c : ℕ} → c ≡ min n (length l) → (t : Bool) → ltb n (length l) ≡ t → (take c l ≡ take n l) × (drop c l ≡ drop n l)
cut_at n l {c} e true h =
    let b = ltb-true n (length l) h in
    let s : c ≡ n = omega arith in
    (rw s, rw s)
cut_at n l {c} e false h =
    let g = ltb-false n (length l) h in
    let f : length l ≤ c = omega arith in
    (take_all c l f ∙ sym (take_all n l g), drop_of_length-le l f ∙ sym (drop_of_length-le l g))

cut : (n : ℕ) (l : List ℕ) {c : ℕ} → c ≡ min n (length l) → (take c l ≡ take n l) × (drop c l ≡ drop n l)
cut n l e = cut_at n l e (ltb n (length l)) refl

-- a call on `&mut cells[0..c]` and `&mut scales[0..w]`, where c and w are the shorter of need and room
module _ (s : Shape) (b : Buffers) {n : Need} {c w : ℕ} (need : n ≡ need_of s) (e : c ≡ min n.cells (length b.cells)) (f : w ≡ min n.scales (length b.scales)) where
  lent_cells : (take c b.cells ≡ take (need_of s).cells b.cells) × (drop c b.cells ≡ drop (need_of s).cells b.cells)
  lent_cells = cut (need_of s).cells b.cells (rw need at e)

  lent_scales : (take w b.scales ≡ take (need_of s).scales b.scales) × (drop w b.scales ≡ drop (need_of s).scales b.scales)
  lent_scales = cut (need_of s).scales b.scales (rw need at f)

  pub given_back : (call : Buffers → Outcome Store) {a : ℕ} {r : Record} {y z : List ℕ}
      → record { reply = a; result = store r (buffers y z) } ≡ call (buffers (take c b.cells) (take w b.scales))
      → record { reply = a; result = store r (buffers (y ++ drop c b.cells) (z ++ drop w b.scales)) } ≡ in_room s b call
  given_back call h =
      rw (lent_cells.1, lent_scales.1)
      (ap (λ (o : Outcome Store). record { reply = o.reply; result = store o.result.rec (given_back_of s o.result.memory b) }) (rw (lent_cells.0, lent_scales.0) at h))

  -- open, done and refused
  module _ (r₀ : Record) {a : ℕ} {r : Record} {y z : List ℕ}
      (h : record { reply = a; result = store r (buffers y z) } ≡ open_of s (buffers (take c b.cells) (take w b.scales))) where
    pub open_done : a ≡ 0
        → record { reply = a; result = store r (buffers (y ++ drop c b.cells) (z ++ drop w b.scales)) } ≡ open_in s (store r₀ b)
    unfolding open_in
    open_done q =
        let e = given_back (open_of s) h in
        let k : (in_room s b (open_of s)).reply ≡ 0 = sym (ap (λ (o : Outcome Store). o.reply) e) ∙ q in
        e ∙ rw (eq-eqb _ 0 k)

    -- refused, what was lent comes back as it went
    same_parts : (a ≡ 0 → ⊥) → (y ≡ take c b.cells) × (z ≡ take w b.scales)
    unfolding open_of
    same_parts q =
        let n = given_number _ _ _ h in
        let k = h ∙ outcome_refused _ _ _ (λ x. q (n ∙ x)) in
        (ap (λ (o : Outcome Store). o.result.memory.cells) k, ap (λ (o : Outcome Store). o.result.memory.scales) k)

    pub open_refused : (a ≡ 0 → ⊥)
        → record { reply = a; result = store r₀ (buffers (y ++ drop c b.cells) (z ++ drop w b.scales)) } ≡ open_in s (store r₀ b)
    unfolding open_in
    open_refused q =
        let m = ap (λ (o : Outcome Store). o.reply) (given_back (open_of s) h) in
        let p = same_parts q in
        rw (p.0, p.1, take-append-drop c b.cells, take-append-drop w b.scales, ← m, ne_eqb a 0 q)
