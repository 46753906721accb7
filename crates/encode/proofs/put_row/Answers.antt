-- Past the test each arm knows the number of the format, and with it the lengths that the format asks for.
use mathlib.Core.Path.{◌≡◌}
use mathlib.Core.Bool.{Bool, true}
use mathlib.Core.List.{List}
use Prim.Native.Nat.{ℕ}
use lib.ListN.{length}
use Rattle.replies.proofs.Flags.{passed, failed}
use Rattle.rows.specs.Fit.{row_fits_of}
use Rattle.rows.specs.Row.{codings, row_cells, row_scales}
use Rattle.shapes.specs.Buffers.{buffers}
use Rattle.replies.specs.Tried.{tells}
use Rattle.encode.specs.Encode.{put_row_of}
use Rattle.replies.proofs.Tried.{tried-done}
use Rattle.rows.proofs.FitLaws.{RowFits, fits_facts, f32_fits, bf16_fits, int8_fits, int4_fits}
use Rattle.encode.proofs.EncodeLaws.{none_there}
use Rattle.encode.proofs.put_row.Goals as goal

module _ (format : ℕ) (run cells scales : List ℕ) {fits : Bool} (e : fits ≡ row_fits_of format (length run) (buffers cells scales)) (t : fits ≡ true) where
  fact : RowFits format (length run) (length cells) (length scales)
  fact = fits_facts (passed e t)

  done : {x y : List ℕ} → x ≡ row_cells format run → y ≡ row_scales format run
      → tells true (buffers x y) ≡ put_row_of format run (buffers cells scales)
  unfolding put_row_of
  done p q = tried-done _ _ (passed e t) (rw (p, q))

pub returns-then-not-rows_fit : goal.returns-then-not-rows_fit
unfolding put_row_of
returns-then-not-rows_fit c = rw (failed c.rows_fit.ensures c.if-not-rows_fit.true)

pub put_f32-requires : goal.put_f32-requires
put_f32-requires c =
    let a = c.args in
    let f = fact a.format a.run.now a.cells.now a.scales.now c.rows_fit.ensures c.if-not-rows_fit.false in
    (f.small, (f32_fits (rw (rw c.in-Ok-F32.field-0-is at c.in-Ok-F32.ensures) at f)).0)

pub put_bf16-requires : goal.put_bf16-requires
put_bf16-requires c =
    let a = c.args in
    (bf16_fits (rw (rw c.in-Ok-Bf16.field-0-is at c.in-Ok-Bf16.ensures) at (fact a.format a.run.now a.cells.now a.scales.now c.rows_fit.ensures c.if-not-rows_fit.false))).0

pub put_int8-requires : goal.put_int8-requires
put_int8-requires c =
    let a = c.args in
    int8_fits (rw (rw c.in-Ok-Int8.field-0-is at c.in-Ok-Int8.ensures) at (fact a.format a.run.now a.cells.now a.scales.now c.rows_fit.ensures c.if-not-rows_fit.false))

pub put_int4-requires : goal.put_int4-requires
put_int4-requires c =
    let a = c.args in
    int4_fits (rw (rw c.in-Ok-Int4.field-0-is at c.in-Ok-Int4.ensures) at (fact a.format a.run.now a.cells.now a.scales.now c.rows_fit.ensures c.if-not-rows_fit.false))

pub returns-in-Ok-F32 : goal.returns-in-Ok-F32
unfolding row_cells row_scales codings
returns-in-Ok-F32 c =
    let a = c.args in
    let e = (rw c.in-Ok-F32.field-0-is at c.in-Ok-F32.ensures) in
    let f = fact a.format a.run.now a.cells.now a.scales.now c.rows_fit.ensures c.if-not-rows_fit.false in
    done a.format a.run.now a.cells.now a.scales.now c.rows_fit.ensures c.if-not-rows_fit.false (rw e c.put_f32.ensures) (rw e (none_there _ (f32_fits (rw e at f)).1))

pub returns-in-Ok-Bf16 : goal.returns-in-Ok-Bf16
unfolding row_cells row_scales codings
returns-in-Ok-Bf16 c =
    let a = c.args in
    let e = (rw c.in-Ok-Bf16.field-0-is at c.in-Ok-Bf16.ensures) in
    let f = fact a.format a.run.now a.cells.now a.scales.now c.rows_fit.ensures c.if-not-rows_fit.false in
    done a.format a.run.now a.cells.now a.scales.now c.rows_fit.ensures c.if-not-rows_fit.false (rw e c.put_bf16.ensures) (rw e (none_there _ (bf16_fits (rw e at f)).1))

pub returns-in-Ok-Int8 : goal.returns-in-Ok-Int8
unfolding row_cells row_scales codings
returns-in-Ok-Int8 c =
    let a = c.args in
    let y = c.put_int8.ensures in
    done a.format a.run.now a.cells.now a.scales.now c.rows_fit.ensures c.if-not-rows_fit.false (rw (rw c.in-Ok-Int8.field-0-is at c.in-Ok-Int8.ensures) y.cells) (rw (rw c.in-Ok-Int8.field-0-is at c.in-Ok-Int8.ensures) y.scales)

pub returns-in-Ok-Int4 : goal.returns-in-Ok-Int4
unfolding row_cells row_scales codings
returns-in-Ok-Int4 c =
    let a = c.args in
    let y = c.put_int4.ensures in
    done a.format a.run.now a.cells.now a.scales.now c.rows_fit.ensures c.if-not-rows_fit.false (rw (rw c.in-Ok-Int4.field-0-is at c.in-Ok-Int4.ensures) y.cells) (rw (rw c.in-Ok-Int4.field-0-is at c.in-Ok-Int4.ensures) y.scales)

-- a format that is not known was refused
pub returns-in-Err : goal.returns-in-Err
returns-in-Err c =
    let a = c.args in
    let k = (fact a.format a.run.now a.cells.now a.scales.now c.rows_fit.ensures c.if-not-rows_fit.false).known in
    let n = c.in-Err.ensures.0 in
    cc
