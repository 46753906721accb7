-- What the calls test for, as what the functions inside ask, and both sides written one after the other.
-- Each holds by the tests, one by one, or by the definitions.
use mathlib.Core.Path.{◌≡◌, refl, ◌∙◌}
use mathlib.Core.Bool.{Bool, true, false, ◌&&◌}
use mathlib.Core.List.{List}
use Prim.Native.Nat.{ℕ, ◌+◌, ◌≤◌}
use native.Mathlib.Omega.{arith}
use lib.Dec.{ltb, leb}
use lib.ListN.{length}
use borrow.Author.Tests.{ltb-true, leb-true}
use Rattle.lists.specs.Chunks.{turns}
use Rattle.replies.proofs.Flags.{both}
use Rattle.shapes.specs.declared.Shape.{Shape}
use Rattle.shapes.specs.Buffers.{Buffers, buffers}
use Rattle.shapes.specs.Shape.{bytes_of, words_of, limits, within, exact}
use Rattle.shapes.proofs.ShapeLaws.{within-limits, exact_sizes}
use Rattle.buffers.specs.Write.{written_side, written}
use Rattle.buffers.specs.Calls.{layer_fits_of}
use Rattle.buffers.specs.Fits.{RunInside, IsRoom}

regrouped : (w e r : Bool) → ((w && e) && r) ≡ (w && (e && r))
regrouped true e r = refl
regrouped false e r = refl

module _ (s : Shape) (l most : ℕ) (b : Buffers) where
  abbrev sizes : Bool
  sizes = exact s (length b.cells) (length b.scales)

  abbrev there : Bool
  there = ltb l s.layers && leb most s.capacity

  -- the room first, then the layer and its positions
  pub layer_fits : ((within s && sizes) && there) ≡ layer_fits_of s l most b
  unfolding layer_fits_of
  layer_fits = regrouped (within s) sizes there

  pub layer_left : (within s && sizes) ≡ true → there ≡ layer_fits_of s l most b
  layer_left e = rw e at layer_fits

  -- past the test: positions of the layer, in whole buffers
  pub in-layer : layer_fits_of s l most b ≡ true → {p n : ℕ} → p + n ≤ most → RunInside s l p n
  unfolding layer_fits_of
  in-layer t span =
      let x = both (within s) (sizes && there) t in
      let y = both sizes there x.1 in
      let z = both (ltb l s.layers) (leb most s.capacity) y.1 in
      record {
        in-limits = within-limits s x.0;
        layer_in = ltb-true l s.layers z.0;
        span = omega (arith, leb-true most s.capacity z.1);
      }

  pub has-room : layer_fits_of s l most b ≡ true → {cells scales : ℕ} → cells ≡ length b.cells → scales ≡ length b.scales → IsRoom s cells scales
  unfolding layer_fits_of
  has-room t c d =
      let x = both (within s) (sizes && there) t in
      let e = exact_sizes s (length b.cells) (length b.scales) (both sizes there x.1).0 in
      record { cell_size = c ∙ e.0; scale_size = d ∙ e.1 }

pub room_limits : (s : Shape) (cells scales : ℕ) → (within s && exact s cells scales) ≡ true → limits s ≡ true
room_limits s cells scales t = within-limits s (both (within s) (exact s cells scales) t).0

-- the keys' side, then the values', in both buffers
module _ (s : Shape) (l p n : ℕ) (rows rows' : ℕ → ℕ → ℕ → List ℕ) (b : Buffers) where
  abbrev Sides : ℕ → Buffers → Buffers → Type 0
  Sides side x y =
      (y.cells ≡ written_side (bytes_of s) s l side p n (rows side) x.cells) × (y.scales ≡ written_side (words_of s) s l side p n (rows' side) x.scales)

  pub both_sides : {x x' y y' : List ℕ} → Sides 0 b (buffers x x') → Sides 1 (buffers x x') (buffers y y')
      → buffers y y' ≡ buffers (written (bytes_of s) s l p n rows b.cells) (written (words_of s) s l p n rows' b.scales)
  unfolding written turns
  both_sides e q = rw (q.0, e.0, q.1, e.1)
