-- How a layer's length is got and set, whatever the record keeps it in: a new record, one length set, and records that are the same.
-- Each holds by the laws of a list's elements, since a record has a length for each of 128 layers.
use mathlib.Core.Path.{◌≡◌, refl, sym, ◌∙◌}
use mathlib.Core.Bool.{Bool, true, false}
use mathlib.Core.Logic.{◌≢◌}
use Prim.Native.Nat.{ℕ, ◌≤◌, ◌<◌}
use native.Mathlib.Omega.{arith}
use native.Mathlib.Decide.{dec_lt}
use lib.Dec.{ltb}
use lib.ListN.{length, get_or, replicate, length-set, length-replicate, get_or-replicate, get_or-eq_default}
use lib.Seq.{get_or-set_same, get_or-set_other, ext_get_or}
use borrow.Author.Tests.{lt-ltb, le-ltb}
use Rattle.lists.proofs.Some.{some_never, some_found}
use Rattle.shapes.specs.declared.Shape.{Shape}
use Rattle.shapes.specs.Shape.{within}
use Rattle.shapes.proofs.ShapeLaws.{limits_facts, within-limits}
use Rattle.store.specs.declared.Record.{Record}
use Rattle.store.specs.Record.{length_of, most_of, good_lengths, new_record_of, with_length_of, with_seq_len}

-- a length for each of 128 layers
pub record HasLengths (r : Record) : Type 0 where
  pub count : length r.lens ≡ 128

-- a new record: all are 0
pub new_has : (s : Shape) → HasLengths (new_record_of s)
new_has s = record { count = length-replicate {A = ℕ} 128 0 }

zero_at : (n l : ℕ) → Dec (l < n) → ◌≡◌ {A = ℕ} (get_or (replicate n 0) l 0) 0
zero_at n l (yes u) = get_or-replicate n l 0 0 u
zero_at n l (no u) = get_or-eq_default (replicate n 0) 0 (rw length-replicate (omega arith))

pub new_length : (s : Shape) (l : ℕ) → length_of (new_record_of s) l ≡ 0
new_length s l = zero_at 128 l (dec_lt l 128)

-- the length of layer l set to n: its own, and every other
module _ {r : Record} (x : HasLengths r) (l n : ℕ) where
  pub set_has : HasLengths (with_length_of r l n)
  set_has = record { count = length-set r.lens l n ∙ x.count }

  pub set_own : within r.shape ≡ true → l < r.shape.layers → length_of (with_length_of r l n) l ≡ n
  set_own h w = let f = (limits_facts _ (within-limits _ h)).layers_in in get_or-set_same r.lens l n 0 (omega arith)

  pub set_other : {m : ℕ} → m ≢ l → length_of (with_length_of r l n) m ≡ length_of r m
  set_other {m} d = get_or-set_other r.lens l m n 0 d

-- the sequence number set
pub seq_has : {r : Record} → HasLengths r → (n : ℕ) → HasLengths (with_seq_len r n)
seq_has x n = record { count = x.count }

-- lengths that are within their most are good
pub lengths_good : (r : Record) → ((l : ℕ) → length_of r l ≤ most_of r.shape l) → good_lengths r ≡ true
unfolding good_lengths
lengths_good r e = rw (some_never 128 (λ l. ltb (most_of r.shape l) (length_of r l)) (λ l w. le-ltb _ _ (e l)))

-- the same shape and the same lengths are the same record, but for the sequence number
pub same_record : {r r' : Record} (n : ℕ) → HasLengths r → HasLengths r' → r.shape ≡ r'.shape → ((l : ℕ) → l < 128 → length_of r l ≡ length_of r' l)
    → with_seq_len r n ≡ with_seq_len r' n
same_record {r} {r'} n x x' s e =
    let d = ext_get_or 0 r.lens r'.lens (x.count ∙ sym x'.count) (λ l w. e l (omega arith)) in
    rw (s, d)

-- where no length is over its most, or one is, a test says whether they are good
pub good_told : (r : Record) (b : Bool) → (b ≡ true → (l : ℕ) → l < 128 → length_of r l ≤ most_of r.shape l)
    → (b ≡ false → (l : ℕ) × (l < 128) × (most_of r.shape l < length_of r l)) → b ≡ good_lengths r
unfolding good_lengths
good_told r true x y = rw (some_never 128 (λ l. ltb (most_of r.shape l) (length_of r l)) (λ l w. le-ltb _ _ (x refl l w)))
good_told r false x y =
    let h = y refl in
    rw (some_found 128 h.0 (λ l. ltb (most_of r.shape l) (length_of r l)) h.1 (lt-ltb _ _ h.2))
