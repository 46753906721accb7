-- What the refusals of a store tell of its record, and the bytes of its layers.
-- Each holds by the tests that make up the refusals, one by one.
use mathlib.Core.Path.{◌≡◌, refl}
use mathlib.Core.Bool.{true}
use Prim.Native.Nat.{ℕ, ◌+◌, ◌*◌, ◌≤◌, ◌<◌}
use native.Mathlib.Nat.{mul-le-mul}
use native.Mathlib.Omega.{arith}
use borrow.Author.Tests.{ltb-false, lt-ltb, not-true, not-false}
use Rattle.lists.proofs.Some.{some_none}
use Rattle.std.specs.Prelude.{Result, Ok, Err, IsErr}
use Rattle.replies.specs.declared.Refusal.{Refusal}
use Rattle.replies.specs.Outcome.{lowest, answered}
use Rattle.replies.proofs.Refusals.{lowest_none}
use Rattle.shapes.specs.Shape.{bytes_of, words_of, within}
use Rattle.shapes.proofs.ShapeLaws.{Limits, limits_facts, within-limits, cell_bytes_most, scale-words_most}
use Rattle.shapes.specs.declared.Shape.{Shape}
use Rattle.store.specs.declared.Record.{Record}
use Rattle.store.specs.Record.{length_of, most_of, good_lengths, position_bytes_of}
use Rattle.store.specs.Calls.{counted, record_refusals, lent_refusals}

-- a record that is not refused, and a store that is not refused
pub record Sound (r : Record) : Type 0 where
  pub shape_in : within r.shape ≡ true
  pub lengths_in : good_lengths r ≡ true

pub sound_record : (r : Record) → lowest (record_refusals r) ≡ 0 → Sound r
sound_record r h =
    let n = lowest_none 0 (record_refusals r) refl h in
    record { shape_in = not-false _ n.0; lengths_in = not-false _ n.1.0 }

pub sound_store : (r : Record) (cells scales : ℕ) → lowest (lent_refusals r cells scales) ≡ 0 → Sound r
sound_store r cells scales h =
    let n = lowest_none 0 (lent_refusals r cells scales) refl h in
    record { shape_in = not-false _ n.0; lengths_in = not-false _ n.1.1.0 }

-- the limits of a sound record's shape
pub sound_limits : (r : Record) → Sound r → Limits r.shape
sound_limits r h = limits_facts r.shape (within-limits r.shape h.shape_in)

-- no length of a sound record is over the capacity
pub len_in : (r : Record) (l : ℕ) → Sound r → l < r.shape.layers → length_of r l ≤ r.shape.capacity
unfolding good_lengths
len_in r l h b =
    let few : l < 128 = omega (arith, (sound_limits r h).layers_in) in
    let e = ltb-false (most_of r.shape l) (length_of r l) (some_none 128 l _ (not-true _ h.lengths_in) few) in
    rw (lt-ltb l r.shape.layers b) at e

-- no product on the way to a position's bytes is large
pub position-bytes_in : (s : Shape) → within s ≡ true → (bytes_of s ≤ 1024) × (words_of s ≤ 1024) × (position_bytes_of s ≤ 655360)
position-bytes_in s h =
    let b = limits_facts s (within-limits s h) in
    let x = cell_bytes_most s b in
    let y = scale-words_most s b in
    let z : 2 * s.heads ≤ 128 = omega arith in
    let w : bytes_of s + 4 * words_of s ≤ 5120 = omega arith in
    (x, y, mul-le-mul z w)

-- nor are the bytes of a layer
pub layer_bytes_in : (r : Record) (l : ℕ) → Sound r → l < r.shape.layers → length_of r l * position_bytes_of r.shape ≤ 2684354560
layer_bytes_in r l h b =
    let w = (sound_limits r h).capacity_in in
    let x : length_of r l ≤ 4096 = omega (arith, len_in r l h b) in
    mul-le-mul x (position-bytes_in r.shape h.shape_in).2

-- a refused count is 0
pub counted_none : (r : Result ℕ Refusal) → IsErr r → counted r ≡ answered r 0
counted_none (Ok n) h = cc
counted_none (Err y) h = refl
