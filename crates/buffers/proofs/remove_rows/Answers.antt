-- The test decides: refused, both buffers are as they were, and past it the layer's positions are zeros, or none are removed.
use mathlib.Core.Path.{◌≡◌, refl, sym}
use mathlib.Core.Bool.{Bool, ◌&&◌}
use Prim.Native.Nat.{ℕ, ◌-◌}
use native.Mathlib.Omega.{arith}
use lib.Dec.{ltb, leb}
use lib.ListN.{length}
use borrow.Author.Rules.{rules}
use Rattle.replies.proofs.Flags.{passed, failed}
use Rattle.replies.proofs.Tried.{tried-done}
use Rattle.shapes.specs.Buffers.{Buffers, buffers}
use Rattle.shapes.specs.declared.Shape.{Shape}
use Rattle.shapes.specs.Shape.{bytes_of, words_of, within, exact}
use Rattle.buffers.specs.Write.{zeros}
use Rattle.buffers.specs.Calls.{layer_fits_of, removed, remove_rows_of}
use Rattle.buffers.proofs.FitLaws.{layer_fits, in-layer, has-room, both_sides}
use Rattle.buffers.proofs.Nothing.{removed_none}
use Rattle.buffers.proofs.remove_rows.Goals as goal

-- the test is whether all fits
tested : (s : Shape) (l len : ℕ) (b : Buffers) {room : Bool} → room ≡ (within s && exact s (length b.cells) (length b.scales))
    → (room && (ltb l s.layers && leb len s.capacity)) ≡ layer_fits_of s l len b
tested s l len b e = rw e (layer_fits s l len b)

pub returns-then-not-has_room-fits : goal.returns-then-not-has_room-fits
unfolding remove_rows_of
returns-then-not-has_room-fits c =
    let a = c.args in
    rw (failed (tested a.shape a.layer a.len (buffers a.cells.now a.scales.now) c.has_room.ensures) c.if-not-has_room-fits.true)

pub invariant_of-run : goal.invariant_of-run
invariant_of-run c =
    let a = c.args in
    let t = tested a.shape a.layer a.len (buffers a.cells.now a.scales.now) c.has_room.ensures in
    record { inside = in-layer _ _ _ _ (passed t c.if-not-has_room-fits.false) (omega arith) }

pub clear-requires : goal.clear-requires
clear-requires c =
    let a = c.args in
    let t = tested a.shape a.layer a.len (buffers a.cells.now a.scales.now) c.has_room.ensures in
    has-room _ _ _ _ (passed t c.if-not-has_room-fits.false) refl refl

pub clear-requires-then-t-len : goal.clear-requires-then-t-len
clear-requires-then-t-len c =
    let a = c.args in
    let t = tested a.shape a.layer a.len (buffers a.cells.now a.scales.now) c.has_room.ensures in
    has-room _ _ _ _ (passed t c.if-not-has_room-fits.false) (search rules) (search rules)

pub returns-then-t-len : goal.returns-then-t-len
unfolding remove_rows_of removed
returns-then-t-len c =
    let a = c.args in
    let b = buffers a.cells.now a.scales.now in
    let k = c.clear.ensures in
    let v = c.clear-then-t-len.ensures in
    tried-done _ _ (passed (tested a.shape a.layer a.len b c.has_room.ensures) c.if-not-has_room-fits.false)
    (both_sides a.shape a.layer a.t (a.len - a.t) (zeros (bytes_of a.shape)) (zeros (words_of a.shape)) b (k.cells, k.scales)
    (v.cells, v.scales))

pub returns-else-t-len : goal.returns-else-t-len
unfolding remove_rows_of
returns-else-t-len c =
    let a = c.args in
    let t = tested a.shape a.layer a.len (buffers a.cells.now a.scales.now) c.has_room.ensures in
    tried-done _ _ (passed t c.if-not-has_room-fits.false) (sym (removed_none a.shape a.layer a.len _ a.t (omega arith)))
