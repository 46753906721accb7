-- Positions of a head's block: each lies in its buffer, and what is lent between their ends is their rows.
-- Each holds by the tests, or by the laws of products and of parts.
use mathlib.Core.Path.{◌≡◌, ◌∙◌}
use mathlib.Core.Bool.{true}
use mathlib.Core.List.{List}
use Prim.Native.Nat.{ℕ, ◌+◌, ◌-◌, ◌*◌, ◌≤◌, ◌<◌}
use native.Mathlib.Nat.{mul-le-mul, mul-le-mul_right, add-mul, add_assoc}
use native.Mathlib.Omega.{arith}
use lib.ListN.{length}
use borrow.Author.Tests.{lt-ltb, le-leb, ltb-true, leb-true}
use Rattle.lists.specs.Chunks.{part}
use Rattle.lists.proofs.Part.{room, part-part, part_length}
use Rattle.replies.proofs.Flags.{both}
use Rattle.shapes.specs.declared.Shape.{Shape}
use Rattle.shapes.specs.Shape.{total, limits}
use Rattle.shapes.proofs.ShapeLaws.{limits_facts, total_small}
use Rattle.places.specs.Place.{block_at, row_of, place}
use Rattle.places.specs.Span.{has_span_of, span_at, span_of}
use Rattle.places.proofs.PlaceLaws.{Block, block_below, rows_end}

-- positions p to p + n - 1 of a block that a shape has
pub record SpanIn (s : Shape) (l side h p n : ℕ) : Type 0 where
  pub in-limits : limits s ≡ true
  pub layer_in : l < s.layers
  pub side_in : side < 2
  pub head_in : h < s.heads
  pub span : p + n ≤ s.capacity

-- all tests passed, and back
module _ {s : Shape} {l side h p n : ℕ} where
  pub span_facts : has_span_of s l side h p n ≡ true → SpanIn s l side h p n
  unfolding has_span_of
  span_facts t =
      let x = both _ _ t in
      let y = both _ _ x.1 in
      let z = both _ _ y.1 in
      let u = both _ _ z.1 in
      record {
        in-limits = x.0;
        layer_in = ltb-true _ _ y.0;
        side_in = ltb-true _ _ z.0;
        head_in = ltb-true _ _ u.0;
        span = leb-true _ _ u.1;
      }

  pub facts_span : SpanIn s l side h p n → has_span_of s l side h p n ≡ true
  unfolding has_span_of
  facts_span k =
      rw (k.in-limits, lt-ltb _ _ k.layer_in, lt-ltb _ _ k.side_in, lt-ltb _ _ k.head_in, le-leb _ _ k.span)

  pub spanned : SpanIn s l side h p n → span_of s l side h p n ≡ span_at s l side h p n
  unfolding span_of
  spanned k = rw (facts_span k)

module _ {s : Shape} {l side h p n : ℕ} (k : SpanIn s l side h p n) where
  block_in : Block s l side h
  block_in = record { layer_in = k.layer_in; side_in = k.side_in; head_in = k.head_in }

  -- the rows end within the buffer's, and nothing on the way to them is large
  pub rows_below : row_of s (block_at s l side h) (p + n) ≤ 2 * s.layers * s.heads * s.capacity
  rows_below = omega (arith, rows_end block_in p n k.span)

  pub rows_small : {r : ℕ} → r ≤ 1024
      → let first = row_of s (block_at s l side h) p in
      (block_at s l side h ≤ 16384) × (first + n ≤ 67108864) × (first * r ≤ 68719476736) × ((first + n) * r ≤ 68719476736)
  rows_small {r} w =
      let t = total_small s r (limits_facts s k.in-limits) w in
      let end : row_of s (block_at s l side h) p + n ≤ 67108864 = omega (arith, rows_below) in
      let first : row_of s (block_at s l side h) p ≤ 67108864 = omega arith in
      (omega (arith, block_below block_in), end, mul-le-mul first w, mul-le-mul end w)

  module _ (b : ℕ) where
    -- in a buffer of b elements a row
    pub span_in : place b s l side h (p + n) ≤ total b s
    unfolding total
    span_in = mul-le-mul_right b rows_below

    pub span_size : place b s l side h (p + n) ≡ place b s l side h p + n * b
    span_size = rw (← add_assoc (block_at s l side h * s.capacity) p n) (add-mul (row_of s (block_at s l side h) p) n b)

    -- what is lent between the ends has n rows, and its row i is the one at the paper's place
    module _ (buf : List ℕ) {from to : ℕ} (q : from ≡ place b s l side h p) (w : to ≡ place b s l side h (p + n)) where
      lent_size : to - from ≡ n * b
      lent_size = omega (arith, span_size)

      pub span-part : part from (to - from) buf ≡ part (place b s l side h p) (n * b) buf
      span-part = rw (lent_size, q)

      pub span-length : length buf ≡ total b s → length (part from (to - from) buf) ≡ n * b
      span-length f = part_length from (to - from) buf (omega (arith, span_in, span_size)) ∙ lent_size

      pub span_row : (i : ℕ) → i < n → part (i * b) b (part from (to - from) buf) ≡ part (place b s l side h (p + i)) b buf
      span_row i u =
          rw (lent_size, q, part-part (place b s l side h p) (n * b) (i * b) b buf (room b u))
          (rw (← add_assoc (block_at s l side h * s.capacity) p i, add-mul (row_of s (block_at s l side h) p) i b))
