-- What reply 0 says of the arguments of each call: what the functions below it ask for.
-- Each holds since no refusal of the call applies, and each refusal is a test that then ended the other way.
use mathlib.Core.Path.{◌≡◌, refl}
use mathlib.Core.Bool.{Bool, true, not, ◌&&◌}
use mathlib.Core.List.{List, [], ◌∷◌, ◌++◌}
use Prim.Native.Nat.{ℕ, ◌+◌, ◌≤◌, ◌<◌}
use native.Mathlib.Omega.{arith}
use lib.ListN.{length, replicate}
use borrow.Author.Tests.{lt-ltb, le-leb, ltb-true, leb-true, not-false}
use Rattle.std.specs.Prelude.{Result, Ok, Err, IsErr}
use Rattle.replies.specs.declared.Refusal.{Refusal}
use Rattle.replies.specs.Outcome.{Case, ◌when◌, lowest, answered}
use Rattle.replies.specs.Tried.{tells}
use Rattle.replies.proofs.Refusals.{None, rising, lowest_none}
use Rattle.replies.proofs.Tried.{tried_left}
use Rattle.shapes.specs.declared.Shape.{Shape}
use Rattle.shapes.specs.Shape.{head_size_of, positions, cell_total, scale_total, limits, exact}
use Rattle.shapes.specs.Buffers.{Buffers, buffers}
use Rattle.shapes.proofs.ShapeLaws.{within-limits, exact_sizes}
use Rattle.places.specs.declared.Span.{Span}
use Rattle.places.specs.Span.{span_of}
use Rattle.places.proofs.SpanLaws.{SpanIn}
use Rattle.places.proofs.LentLaws.{Inside, lent_in}
use Rattle.buffers.specs.Calls.{appended, removed, layer_fits_of, whole_rows, append_rows_of, remove_rows_of}
use Rattle.store.specs.declared.Record.{Record}
use Rattle.store.specs.Record.{seq_len_of, length_of, new_record_of}
use Rattle.store.specs.Calls.{store, no_shape, opened, buffer_refusals, record_refusals, lent_refusals, store_refusals, fits_after, append_refusals, remove_refusals, sequence_refusal}
use Rattle.store.proofs.StoreLaws.{Sound, sound_limits, len_in}

-- opening: refused, no store is open
pub opened_none : (r : Result Record Refusal) (b : Buffers) → IsErr r → opened r b ≡ answered r (store (new_record_of no_shape) b)
opened_none (Ok t) b h = cc
opened_none (Err y) b h = refl

-- buffers that are not refused have the lengths of the zeros
pub zeros_left : (s : Shape) (b : Buffers) {cells scales : List ℕ} → lowest (buffer_refusals s b) ≡ 0
    → cells ≡ replicate (length b.cells) 0 → scales ≡ replicate (length b.scales) 0
    → buffers cells scales ≡ buffers (replicate (cell_total s) 0) (replicate (scale_total s) 0)
zeros_left s b h c d =
    let e = exact_sizes s _ _ (not-false _ (lowest_none 0 (buffer_refusals s b) refl h).1.0) in
    rw (c, d, e.0, e.1)

-- a record that is sound, buffers of exactly the lengths that it needs, and a layer that is there
pub record LayerIn (r : Record) (l cells scales : ℕ) : Type 0 where
  pub sound : Sound r
  pub exact_in : exact r.shape cells scales ≡ true
  pub layer_in : l < r.shape.layers

-- a call on a layer that is not refused: of the refusals past 4, none applies either
module _ (r : Record) (l cells scales : ℕ) (further : List Case) (t : rising 4 further ≡ true)
    (z : lowest (lent_refusals r cells scales ++ (remove_refusals r.shape l ++ further)) ≡ 0) where
  none : None (lent_refusals r cells scales ++ (remove_refusals r.shape l ++ further))
  none = lowest_none 0 (lent_refusals r cells scales ++ (remove_refusals r.shape l ++ further)) t z

  pub layer_there : LayerIn r l cells scales
  layer_there =
      record {
        sound = record { shape_in = not-false _ none.0; lengths_in = not-false _ none.1.1.0 };
        exact_in = not-false _ none.1.0;
        layer_in = ltb-true l r.shape.layers (not-false _ none.1.1.1.0);
      }

  pub none_further : None further
  none_further = none.1.1.1.1

module _ {r : Record} {l cells scales : ℕ} (k : LayerIn r l cells scales) where
  pub in-limits : limits r.shape ≡ true
  in-limits = within-limits r.shape k.sound.shape_in

  pub in_record : l < 128
  in_record = omega (arith, (sound_limits r k.sound).layers_in, k.layer_in)

  pub len_there : length_of r l ≤ r.shape.capacity
  len_there = len_in r l k.sound k.layer_in

-- positions p to p + n - 1 of a head in buffers that are the record's; `given` is the size of an output or of a query
pub record BlockIn (r : Record) (l side h p n given cells scales : ℕ) : Type 0 where
  pub rows_in : SpanIn r.shape l side h p n
  pub size : given ≡ head_size_of r.shape
  pub sizes : (cells ≡ cell_total r.shape) × (scales ≡ scale_total r.shape)

module _ {r : Record} {l side h p n given cells scales : ℕ} where
  pub block_there : LayerIn r l cells scales → side < 2 → h < r.shape.heads → p + n ≤ length_of r l → given ≡ head_size_of r.shape
      → BlockIn r l side h p n given cells scales
  block_there k v w u e =
      record {
        rows_in = record { in-limits = in-limits k; layer_in = k.layer_in; side_in = v; head_in = w; span = omega (arith, len_there k) };
        size = e;
        sizes = exact_sizes r.shape cells scales k.exact_in;
      }

  -- its rows lie in both buffers
  pub block_lent : {x : Span} → BlockIn r l side h p n given cells scales → x ≡ span_of r.shape l side h p n → Inside x cells scales
  block_lent k e = lent_in k.rows_in e k.sizes.0 k.sizes.1

-- an append
module _ (r : Record) (l keys values cells scales : ℕ)
    (z : lowest (lent_refusals r cells scales ++ append_refusals r.shape l (length_of r l) keys values) ≡ 0) where
  append_further : None ((7 when not (whole_rows r.shape keys values)) ∷ (9 when not (fits_after r.shape (length_of r l) keys)) ∷ [])
  append_further = none_further r l cells scales _ refl z

  pub append_layer : LayerIn r l cells scales
  append_layer = layer_there r l cells scales _ refl z

  pub append-whole : whole_rows r.shape keys values ≡ true
  append-whole = not-false _ append_further.0

  pub append_room : length_of r l + positions r.shape keys ≤ r.shape.capacity
  append_room = leb-true _ _ (not-false _ append_further.1.0)

-- an advance
pub sequence_fits : (r : Record) (count : ℕ) → lowest (record_refusals r ++ sequence_refusal r count) ≡ 0 → seq_len_of r + count ≤ 4294967295
sequence_fits r count z = leb-true _ _ (not-false _ (lowest_none 0 (record_refusals r ++ sequence_refusal r count) refl z).1.1.0)

-- a record and buffers that are those of a store
pub store_alike : {r r' : Record} {b b' : Buffers} → r ≡ r' → b ≡ b' → store r b ≡ store r' b'
store_alike e q = rw (e, q)

-- what an append and a truncation leave of the buffers
module _ (r : Record) (b : Buffers) (l : ℕ) {done : Bool} {len : ℕ} {x : Buffers} where
  pub append_left : (keys values : List ℕ)
      → lowest (store_refusals r b ++ append_refusals r.shape l (length_of r l) (length keys) (length values)) ≡ 0
      → len ≡ length_of r l → tells done x ≡ append_rows_of r.shape l len keys values b
      → x ≡ appended r.shape l (length_of r l) keys values b
  unfolding append_rows_of layer_fits_of
  append_left keys values z e q =
      let k = append_layer r l (length keys) (length values) _ _ z in
      let t : (layer_fits_of r.shape l (length_of r l + positions r.shape (length keys)) b && whole_rows r.shape (length keys) (length values)) ≡ true =
      rw (k.sound.shape_in, k.exact_in, lt-ltb _ _ k.layer_in, le-leb _ _ (append_room r l _ _ _ _ z), append-whole r l _ _ _ _ z) in
      tried_left _ _ t (rw e at q)

  pub remove_left : (t : ℕ) → lowest (store_refusals r b ++ remove_refusals r.shape l) ≡ 0
      → len ≡ length_of r l → tells done x ≡ remove_rows_of r.shape l len t b
      → x ≡ removed r.shape l (length_of r l) t b
  unfolding remove_rows_of layer_fits_of
  remove_left t z e q =
      let k = layer_there r l _ _ [] refl z in
      let w : layer_fits_of r.shape l (length_of r l) b ≡ true =
      rw (k.sound.shape_in, k.exact_in, lt-ltb _ _ k.layer_in, le-leb _ _ (len_there k)) in
      tried_left _ _ w (rw e at q)
