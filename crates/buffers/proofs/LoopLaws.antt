-- A loop over the heads of a side, whose positions are lent out of the whole buffer.
-- Each holds by the laws of parts and turns, since a head's block lies a fixed number of elements behind the one before it.
use mathlib.Core.Path.{◌≡◌, refl, sym, ap, ◌∙◌}
use mathlib.Core.List.{List, ◌++◌}
use Prim.Native.Nat.{ℕ, ◌+◌, ◌-◌, ◌*◌, ◌≤◌, ◌<◌}
use native.Mathlib.Nat.{add-mul, mul_assoc, mul-le-mul}
use native.Mathlib.Omega.{arith}
use lib.ListN.{length, take, drop, replicate}
use Rattle.lists.specs.Chunks.{part, joined, turns}
use Rattle.lists.proofs.Part.{part_length}
use Rattle.lists.proofs.At.{at_lent, at_length}
use Rattle.lists.proofs.Joined.{joined-replicate}
use Rattle.lists.proofs.Turns.{turns_next}
use Rattle.shapes.specs.declared.Shape.{Shape}
use Rattle.shapes.specs.Shape.{bytes_of, words_of, cell_total, scale_total}
use Rattle.shapes.proofs.ShapeLaws.{Limits, limits_facts, cell_bytes_most, scale-words_most}
use Rattle.places.specs.declared.Span.{Span}
use Rattle.places.specs.Place.{row_of, place}
use Rattle.places.specs.Span.{span_at, span_of}
use Rattle.places.proofs.SpanLaws.{SpanIn, spanned, rows_small, span_in, span_size}
use Rattle.buffers.specs.declared.Side.{Side}
use Rattle.buffers.specs.declared.Side.TheVariants.{Keys, Values}
use Rattle.buffers.specs.Side.{side_number}
use Rattle.buffers.specs.Fits.{RunInside, IsRoom}
use Rattle.buffers.specs.Write.{put, written_side}

-- positions of head h, lent as `[from..to]` out of a buffer of so many elements
pub record Ends (b : ℕ) (s : Shape) (l side h p n size from to : ℕ) : Type 0 where
  pub start : from ≡ place b s l side h p
  pub count : from + n * b ≡ to
  pub inside : to ≤ size

-- a head's block lies behind those before it
head-place : (b : ℕ) (s : Shape) (l side h q : ℕ) → place b s l side 0 q + h * (s.capacity * b) ≡ place b s l side h q
head-place b s l side h q =
    let i = (2 * l + side) * s.heads in
    rw (← mul_assoc h s.capacity b, ← add-mul (row_of s (i + 0) q) (h * s.capacity) b, add-mul i h s.capacity) (ap (λ (r : ℕ). r * b) (omega arith))

-- in both buffers
pub record HeadIn (s : Shape) (l side h p n : ℕ) (span : Span) (cells scales : ℕ) : Type 0 where
  pub cells_at : Ends (bytes_of s) s l side h p n cells span.cells_from span.cells_to
  pub words_at : Ends (words_of s) s l side h p n scales span.scales_from span.scales_to

-- buffers of the same lengths are whole too
pub room_kept : {s : Shape} {cells scales x y : ℕ} → IsRoom s cells scales → x ≡ cells → y ≡ scales → IsRoom s x y
room_kept r e f = record { cell_size = e ∙ r.cell_size; scale_size = f ∙ r.scale_size }

-- a side is the keys' or the values'
pub side_below : (x : Side) → side_number x < 2
side_below Keys = omega arith
side_below Values = omega arith

module _ {s : Shape} {l p n : ℕ} (k : RunInside s l p n) where
  limited : Limits s
  limited = limits_facts s k.in-limits

  -- a block is small
  pub cells_small : {r : ℕ} → r ≡ bytes_of s → s.capacity * r ≤ 4194304
  cells_small e = rw e (mul-le-mul limited.capacity_in.1 (cell_bytes_most s limited))

  pub words_small : {r : ℕ} → r ≡ words_of s → s.capacity * r ≤ 4194304
  words_small e = rw e (mul-le-mul limited.capacity_in.1 (scale-words_most s limited))

  -- each head has the positions, and the offsets of the first are all that is asked for
  head-span : {side h : ℕ} → side < 2 → h < s.heads → SpanIn s l side h p n
  head-span u w = record { in-limits = k.in-limits; layer_in = k.layer_in; side_in = u; head_in = w; span = k.span }

  module _ {side h : ℕ} (u : side < 2) (v : h < s.heads) where
    -- the ends of head h
    pub ends_in : {x y : ℕ} {span : Span} → span ≡ span_at s l side h p n → IsRoom s x y → HeadIn s l side h p n span x y
    ends_in e r =
        let k = head-span u v in
        let c = bytes_of s in
        let w = words_of s in
        rw (e, r.cell_size, r.scale_size) (
        record {
          cells_at = record { start = refl; count = sym (span_size k c); inside = span_in k c };
          words_at = record { start = refl; count = sym (span_size k w); inside = span_in k w };
        }
        )

    -- from those of the first, where rows have c and w elements
    module _ {c w : ℕ} {first : Span} (e : first ≡ span_of s l side 0 p n) (q : c ≡ bytes_of s) (o : w ≡ words_of s) where
      pub head_ends : (record {
        cells_from = first.cells_from + h * (s.capacity * c);
        cells_to = first.cells_to + h * (s.capacity * c);
        scales_from = first.scales_from + h * (s.capacity * w);
        scales_to = first.scales_to + h * (s.capacity * w);
      }) ≡ span_at s l side h p n
      head_ends =
          let b = bytes_of s in
          let d = words_of s in
          rw (q, o, e ∙ spanned (head-span u limited.heads_in.0))
          (rw (head-place b s l side h p, head-place b s l side h (p + n), head-place d s l side h p, head-place d s l side h (p + n)))

-- they lie in a buffer of so many elements, in order, and nothing on the way to them is large
pub record HeadFits (s : Shape) (h r from to size : ℕ) : Type 0 where
  pub order : from + h * (s.capacity * r) ≤ to + h * (s.capacity * r)
  pub inside : to + h * (s.capacity * r) ≤ size
  pub small : to + h * (s.capacity * r) ≤ 68719476736

pub cells_fit : {s : Shape} {l p n side h c : ℕ} {first : Span} → RunInside s l p n → side < 2 → h < s.heads → first ≡ span_of s l side 0 p n
    → c ≡ bytes_of s → HeadFits s h c first.cells_from first.cells_to (cell_total s)
cells_fit {s} k u v e q =
    let x = head_ends k u v e q refl in
    let y = head-span k u v in
    let b = bytes_of s in
    let t = ap (λ (r : Span). r.cells_from) x in
    let z = ap (λ (r : Span). r.cells_to) x in
    record {
      order = omega (arith, t, z, span_size y b);
      inside = rw z (span_in y b);
      small = rw z (omega (arith, rows_small y (cell_bytes_most s (limited k)), span_size y b));
    }

pub words_fit : {s : Shape} {l p n side h w : ℕ} {first : Span} → RunInside s l p n → side < 2 → h < s.heads → first ≡ span_of s l side 0 p n
    → w ≡ words_of s → HeadFits s h w first.scales_from first.scales_to (scale_total s)
words_fit {s} k u v e o =
    let x = head_ends k u v e refl o in
    let y = head-span k u v in
    let b = words_of s in
    let t = ap (λ (r : Span). r.scales_from) x in
    let z = ap (λ (r : Span). r.scales_to) x in
    record {
      order = omega (arith, t, z, span_size y b);
      inside = rw z (span_in y b);
      small = rw z (omega (arith, rows_small y (scale-words_most s (limited k)), span_size y b));
    }

-- a loop over the heads of a side: out is buf with the rows of the first h of them
pub record Heads (b : ℕ) (s : Shape) (l side p n : ℕ) (rows : ℕ → ℕ → List ℕ) (buf : List ℕ) (h : ℕ) (out : List ℕ) : Type 0 where
  pub passed : h ≤ s.heads
  pub result : out ≡ turns h (λ i. put b s l side i p n (rows i)) buf
  pub kept : length out ≡ length buf

module _ {b : ℕ} {s : Shape} {l side p n : ℕ} {rows : ℕ → ℕ → List ℕ} {buf : List ℕ} where
  pub no_heads : Heads b s l side p n rows buf 0 buf
  unfolding turns
  no_heads = record { passed = omega arith; result = refl; kept = refl }

  module _ {h : ℕ} {out : List ℕ} (o : Heads b s l side p n rows buf h out) where
    pub heads_done : s.heads ≤ h → out ≡ written_side b s l side p n rows buf
    unfolding written_side
    heads_done w = let e : h ≡ s.heads = omega (arith, o.passed) in o.result ∙ rw e

    -- the turn: the positions of head h came back as y
    pub head_turn : {from to : ℕ} {y : List ℕ} → length y ≡ n * b → h < s.heads → Ends b s l side h p n (length out) from to → y ≡ joined n (rows h)
        → Heads b s l side p n rows buf (h + 1) (take from out ++ (y ++ drop (to - from) (drop from out)))
    unfolding put
    head_turn {from} sized w e q =
        let f : List ℕ → List ℕ = λ _. joined n (rows h) in
        let came = at_lent from (n * b) f out e.count q in
        let same = at_length from (n * b) f out (λ x u. rw q at sized) (omega (arith, e.count, e.inside)) in
        record {
          passed = omega arith;
          result = turns_next h (λ i. put b s l side i p n (rows i)) buf o.result (came ∙ rw e.start);
          kept = rw came (same ∙ o.kept);
        }

-- what is lent has n rows
pub ends_size : {b : ℕ} {s : Shape} {l side h p n from to : ℕ} (out : List ℕ) → Ends b s l side h p n (length out) from to
    → length (part from (to - from) out) ≡ n * b
ends_size {b} {n = n} {from = from} {to = to} out e =
    let d : to - from ≡ n * b = omega (arith, e.count) in
    part_length from (to - from) out (omega (arith, e.count, e.inside)) ∙ d

-- zeros are rows of zeros
pub zero_rows : (b n : ℕ) (x : List ℕ) {y : List ℕ} → length x ≡ n * b → y ≡ replicate (length x) 0 → y ≡ joined n (λ i. replicate b 0)
zero_rows b n x e q = q ∙ rw (e, joined-replicate {A = ℕ} b n 0)
