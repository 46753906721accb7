-- The tests decide: refused, both buffers are as they were, and past them both sides of the layer have the new rows.
use mathlib.Core.Path.{◌≡◌, refl}
use mathlib.Core.Bool.{Bool, true, ◌&&◌}
use mathlib.Core.List.{List}
use Prim.Native.Nat.{ℕ, ◌+◌, ◌*◌}
use native.Mathlib.Nat.{le_refl, div-le_self}
use native.Mathlib.Omega.{arith}
use lib.Dec.{ltb, leb}
use lib.ListN.{length}
use borrow.Author.Rules.{rules}
use Rattle.replies.proofs.Flags.{both, passed, failed}
use Rattle.replies.proofs.Tried.{tried-done}
use Rattle.shapes.specs.Buffers.{buffers}
use Rattle.shapes.specs.declared.Shape.{Shape}
use Rattle.shapes.specs.Shape.{width, positions, within, exact}
use Rattle.shapes.proofs.ShapeLaws.{width_in}
use Rattle.buffers.specs.Calls.{side_of, cell_row_of, scale_row, appended, layer_fits_of, whole_rows, append_rows_of}
use Rattle.buffers.proofs.FitLaws.{room_limits, layer_fits, layer_left, in-layer, has-room, both_sides}
use Rattle.buffers.proofs.RunLaws.{whole-rows}
use Rattle.buffers.proofs.append_rows.Goals as goal

module _ (s : Shape) (l len : ℕ) (keys values cells scales : List ℕ) {room : Bool}
    (e : room ≡ (within s && exact s (length cells) (length scales))) (t : room ≡ true) where
  -- past the first test the second is whether all fits
  tested : ((ltb l s.layers && leb (len + positions s (length keys)) s.capacity) && whole_rows s (length keys) (length values))
      ≡ (layer_fits_of s l (len + positions s (length keys)) (buffers cells scales) && whole_rows s (length keys) (length values))
  tested = rw (layer_left s l (len + positions s (length keys)) (buffers cells scales) (passed e t))

  -- and past both it does
  fits : ((ltb l s.layers && leb (len + positions s (length keys)) s.capacity) && whole_rows s (length keys) (length values)) ≡ true
      → (layer_fits_of s l (len + positions s (length keys)) (buffers cells scales) ≡ true)
      × (length keys ≡ positions s (length keys) * width s)
      × (length values ≡ positions s (length keys) * width s)
  fits y =
      let x = both _ _ (passed tested y) in
      let z = whole-rows s (length keys) (length values) x.1 in
      (x.0, z.0, z.1)

pub returns-then-not-has_room : goal.returns-then-not-has_room
unfolding append_rows_of
returns-then-not-has_room c =
    let a = c.args in
    rw (
      ← layer_fits a.shape a.layer (a.len + positions a.shape (length a.keys.now)) (buffers a.cells.now a.scales.now),
      failed c.has_room.ensures c.if-not-has_room.true,
    )

pub overflow_mul-width : goal.overflow_mul-width
overflow_mul-width c = omega (arith, width_in _ (room_limits _ _ _ (passed c.has_room.ensures c.if-not-has_room.false)))

pub nonzero_div-n : goal.nonzero_div-n
nonzero_div-n c = omega (arith, width_in _ (room_limits _ _ _ (passed c.has_room.ensures c.if-not-has_room.false)))

pub overflow_add-fits : goal.overflow_add-fits
overflow_add-fits c = let a = c.args in omega (arith, div-le_self (length a.keys.now) (width a.shape))

pub nonzero_rem-whole : goal.nonzero_rem-whole
nonzero_rem-whole c = omega (arith, width_in _ (room_limits _ _ _ (passed c.has_room.ensures c.if-not-has_room.false)))

pub returns-then-not-fits-whole : goal.returns-then-not-fits-whole
unfolding append_rows_of
returns-then-not-fits-whole c =
    let a = c.args in
    rw
    (failed
    (tested a.shape a.layer a.len a.keys.now a.values.now a.cells.now a.scales.now c.has_room.ensures c.if-not-has_room.false)
    c.if-not-fits-whole.true)

pub invariant_of-run : goal.invariant_of-run
invariant_of-run c =
    let a = c.args in
    let x =
    fits a.shape a.layer a.len a.keys.now a.values.now a.cells.now a.scales.now c.has_room.ensures c.if-not-has_room.false
    c.if-not-fits-whole.false in
    record { inside = in-layer _ _ _ _ x.0 (le_refl _) }

pub put-requires : goal.put-requires
put-requires c =
    let a = c.args in
    let x =
    fits a.shape a.layer a.len a.keys.now a.values.now a.cells.now a.scales.now c.has_room.ensures c.if-not-has_room.false
    c.if-not-fits-whole.false in
    record { room = has-room _ _ _ _ x.0 refl refl; numbers_len = x.1 }

pub put-requires-2 : goal.put-requires-2
put-requires-2 c =
    let a = c.args in
    let x =
    fits a.shape a.layer a.len a.keys.now a.values.now a.cells.now a.scales.now c.has_room.ensures c.if-not-has_room.false
    c.if-not-fits-whole.false in
    record { room = has-room _ _ _ _ x.0 (search rules) (search rules); numbers_len = omega arith }

pub returns : goal.returns
unfolding append_rows_of appended
returns c =
    let a = c.args in
    let numbers = side_of a.keys.now a.values.now in
    let k = c.put.ensures in
    let v = c.put-2.ensures in
    tried-done _ _
    (passed
    (tested a.shape a.layer a.len a.keys.now a.values.now a.cells.now a.scales.now c.has_room.ensures c.if-not-has_room.false)
    c.if-not-fits-whole.false)
    (both_sides a.shape a.layer a.len (positions a.shape (length a.keys.now)) (λ side. cell_row_of a.shape (numbers side))
    (λ side. scale_row a.shape (numbers side)) (buffers a.cells.now a.scales.now) (k.cells, k.scales) (v.cells, v.scales))
