-- Each arm names the shape's own format, which is one of the four.
use Rattle.shapes.proofs.ShapeLaws.{limits_facts}
use Rattle.buffers.proofs.put_rows.Goals as goal

pub returns-in-Ok-F32 : goal.returns-in-Ok-F32
returns-in-Ok-F32 c =
    let e = rw c.in-Ok-F32.field-0-is at c.in-Ok-F32.ensures in
    record { cells = rw e c.put_rows_in.ensures.cells; scales = rw e c.put_rows_in.ensures.scales }

pub returns-in-Ok-Bf16 : goal.returns-in-Ok-Bf16
returns-in-Ok-Bf16 c =
    let e = rw c.in-Ok-Bf16.field-0-is at c.in-Ok-Bf16.ensures in
    record { cells = rw e c.put_rows_in-in-Ok-Bf16.ensures.cells; scales = rw e c.put_rows_in-in-Ok-Bf16.ensures.scales }

pub returns-in-Ok-Int8 : goal.returns-in-Ok-Int8
returns-in-Ok-Int8 c =
    let e = rw c.in-Ok-Int8.field-0-is at c.in-Ok-Int8.ensures in
    record { cells = rw e c.put_rows_in-in-Ok-Int8.ensures.cells; scales = rw e c.put_rows_in-in-Ok-Int8.ensures.scales }

pub returns-in-Ok-Int4 : goal.returns-in-Ok-Int4
returns-in-Ok-Int4 c =
    let e = rw c.in-Ok-Int4.field-0-is at c.in-Ok-Int4.ensures in
    record { cells = rw e c.put_rows_in-in-Ok-Int4.ensures.cells; scales = rw e c.put_rows_in-in-Ok-Int4.ensures.scales }

pub unreachable-requires : goal.unreachable-requires
unreachable-requires c =
    let k = (limits_facts _ c.requires.in-limits).format_in in
    let n = c.in-Err.ensures.0 in
    cc
