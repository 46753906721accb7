-- A store whose every layer has given rows and nothing else: an accepted append, truncation or advance leaves such a store.
-- An append or a truncation moves the rows of its own layer, by the laws of layers; an advance moves none.
use mathlib.Core.Path.{◌≡◌, refl, sym, subst}
use mathlib.Core.Bool.{Bool, true, false, cond}
use mathlib.Core.Logic.{◌≢◌}
use mathlib.Core.List.{List, ◌++◌}
use Prim.Native.Nat.{ℕ, ◌+◌, ◌≤◌, ◌<◌, min}
use lib.Dec.{eqb}
use lib.ListN.{length, take}
use borrow.Author.Tests.{lt-ltb, eqb-true, eqb-false}
use Rattle.shapes.specs.Buffers.{Buffers}
use Rattle.shapes.specs.Shape.{positions}
use Rattle.buffers.specs.Calls.{appended, removed, whole_rows}
use Rattle.store.specs.declared.Record.{Record}
use Rattle.store.specs.Record.{length_of, with_length_of, with_seq_len}
use Rattle.store.specs.Calls.{store}
use Rattle.store.proofs.LengthLaws.{set_has, set_own, set_other, seq_has}
use Rattle.undo.specs.Survivors.{Rows, rows_of, rows_after}
use Rattle.undo.specs.Sequence.{append, truncate}
use Rattle.undo.proofs.LayerLaws.{HasRows, Sizes, append_sizes, append_others, append_own}
use Rattle.undo.proofs.CutLaws.{truncate_sizes, truncate_others, truncate_own}
use Rattle.undo.proofs.StoreLaws.{Renders, in-room}

module _ {r : Record} {b : Buffers} {of : ℕ → Rows} (x : Renders r.shape (store r b) of) where
  -- layer l alone changed, to n positions that are the rows `new l`
  module _ (l n : ℕ) (new : ℕ → Rows) (c : Buffers) (w : l < r.shape.layers) (own : HasRows r.shape l n (new l) c)
      (others : (m : ℕ) → m ≢ l → HasRows r.shape m (length_of r m) (of m) c) where
    changed_at : (m : ℕ) (f : Bool) → eqb l m ≡ f → HasRows r.shape m (length_of (with_length_of r l n) m) (cond f (new m) (of m)) c
    changed_at m true e =
        subst (λ (m : ℕ). HasRows r.shape m (length_of (with_length_of r l n) m) (new m) c) (eqb-true l m e)
        (rw (set_own x.lengths l n x.shape_in w) own)
    changed_at m false e =
        let d : m ≢ l = λ h. eqb-false l m e (sym h) in
        rw (set_other x.lengths l n d) (others m d)

    layer_changed : Sizes r.shape c
        → Renders r.shape (store (with_length_of r l n) c) (λ m. cond (eqb l m) (new m) (of m))
    layer_changed z =
        record {
          shape_is = refl;
          shape_in = x.shape_in;
          lengths = set_has x.lengths l n;
          sizes = z;
          layer = λ m. changed_at m (eqb l m) refl;
        }

  -- accepted, an append and a truncation leave such a store
  pub append-done : (l : ℕ) (keys values : List ℕ) → l < r.shape.layers
      → whole_rows r.shape (length keys) (length values) ≡ true → length_of r l + positions r.shape (length keys) ≤ r.shape.capacity
      → Renders r.shape (store (with_length_of r l (length_of r l + positions r.shape (length keys)))
      (appended r.shape l (length_of r l) keys values b))
      (λ m. rows_after r.shape m (of m) (append l keys values))
  append-done l keys values w q v =
      let len = length_of r l in
      layer_changed l _ (λ m. of m ++ rows_of r.shape keys values) _ w (append_own b (in-room x w) len keys values q v (x.layer l))
      (λ m d. append_others b (in-room x w) len keys values q v d (x.layer m))
      (append_sizes b (in-room x w) len keys values q v)

  pub truncate-done : (l n : ℕ) → l < r.shape.layers
      → Renders r.shape (store (with_length_of r l (min (length_of r l) n)) (removed r.shape l (length_of r l) n b))
      (λ m. rows_after r.shape m (of m) (truncate l n))
  truncate-done l n w =
      let len = length_of r l in
      let v : len ≤ r.shape.capacity = rw (lt-ltb l r.shape.layers w) at (x.layer l).span in
      layer_changed l _ (λ m. take n (of m)) _ w
      (truncate_own b (in-room x w) len n v (x.layer l))
      (λ m d. truncate_others b (in-room x w) len n v d (x.layer m))
      (truncate_sizes b (in-room x w) len n v)

  -- the sequence number is nothing of it
  pub advance-done : (n : ℕ) → Renders r.shape (store (with_seq_len r n) b) of
  advance-done n =
      record { shape_is = refl; shape_in = x.shape_in; lengths = seq_has x.lengths n; sizes = x.sizes; layer = x.layer }
