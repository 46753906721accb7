-- Past the test each arm knows the number of the format, and with it the lengths that the format asks for.
use mathlib.Core.Path.{◌≡◌}
use mathlib.Core.Bool.{Bool, true}
use mathlib.Core.List.{List}
use Prim.Native.Nat.{ℕ}
use lib.ListN.{length}
use Rattle.replies.proofs.Flags.{passed, failed}
use Rattle.rows.specs.Row.{codings, row_numbers}
use Rattle.shapes.specs.Buffers.{buffers}
use Rattle.replies.specs.Tried.{tells}
use Rattle.decode.specs.Decode.{get_row_of}
use Rattle.replies.proofs.Tried.{tried-done}
use Rattle.rows.specs.Fit.{rows_fit_of}
use Rattle.rows.proofs.FitLaws.{RowFits, fits_facts, f32_fits, bf16_fits, int8_fits, int4_fits}
use Rattle.decode.proofs.get_row.Goals as goal

pub returns-then-not-rows_fit : goal.returns-then-not-rows_fit
unfolding get_row_of
returns-then-not-rows_fit c = rw (failed c.rows_fit.ensures c.if-not-rows_fit.true)

facts : {t : Bool} {format d cells scales : ℕ} → t ≡ rows_fit_of format d 1 cells scales → t ≡ true → RowFits format d cells scales
facts e h = fits_facts (passed e h)

done : (format : ℕ) (out cells scales : List ℕ) {t : Bool} {x : List ℕ} → t ≡ rows_fit_of format (length out) 1 (length cells) (length scales) → t ≡ true
    → x ≡ row_numbers format (length out) cells scales
    → tells true x ≡ get_row_of format (buffers cells scales) out
unfolding get_row_of
done format out cells scales e h = tried-done _ _ (passed e h)

pub get_f32-requires : goal.get_f32-requires
get_f32-requires c = (f32_fits (rw (rw c.in-Ok-F32.field-0-is at c.in-Ok-F32.ensures) at (facts c.rows_fit.ensures c.if-not-rows_fit.false))).0

pub get_bf16-requires : goal.get_bf16-requires
get_bf16-requires c = (bf16_fits (rw (rw c.in-Ok-Bf16.field-0-is at c.in-Ok-Bf16.ensures) at (facts c.rows_fit.ensures c.if-not-rows_fit.false))).0

pub get_int8-requires : goal.get_int8-requires
get_int8-requires c = int8_fits (rw (rw c.in-Ok-Int8.field-0-is at c.in-Ok-Int8.ensures) at (facts c.rows_fit.ensures c.if-not-rows_fit.false))

pub get_int4-requires : goal.get_int4-requires
get_int4-requires c = int4_fits (rw (rw c.in-Ok-Int4.field-0-is at c.in-Ok-Int4.ensures) at (facts c.rows_fit.ensures c.if-not-rows_fit.false))

pub returns-in-Ok-F32 : goal.returns-in-Ok-F32
unfolding row_numbers codings
returns-in-Ok-F32 c = done _ _ _ _ c.rows_fit.ensures c.if-not-rows_fit.false (rw (rw c.in-Ok-F32.field-0-is at c.in-Ok-F32.ensures) c.get_f32.ensures)

pub returns-in-Ok-Bf16 : goal.returns-in-Ok-Bf16
unfolding row_numbers codings
returns-in-Ok-Bf16 c = done _ _ _ _ c.rows_fit.ensures c.if-not-rows_fit.false (rw (rw c.in-Ok-Bf16.field-0-is at c.in-Ok-Bf16.ensures) c.get_bf16.ensures)

pub returns-in-Ok-Int8 : goal.returns-in-Ok-Int8
unfolding row_numbers codings
returns-in-Ok-Int8 c = done _ _ _ _ c.rows_fit.ensures c.if-not-rows_fit.false (rw (rw c.in-Ok-Int8.field-0-is at c.in-Ok-Int8.ensures) c.get_int8.ensures)

pub returns-in-Ok-Int4 : goal.returns-in-Ok-Int4
unfolding row_numbers codings
returns-in-Ok-Int4 c = done _ _ _ _ c.rows_fit.ensures c.if-not-rows_fit.false (rw (rw c.in-Ok-Int4.field-0-is at c.in-Ok-Int4.ensures) c.get_int4.ensures)

-- a format that is not known was refused
pub returns-in-Err : goal.returns-in-Err
returns-in-Err c =
    let k = (facts c.rows_fit.ensures c.if-not-rows_fit.false).known in
    let n = c.in-Err.ensures.0 in
    cc
