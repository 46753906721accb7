-- Each arm is a line of the table, and the last what the table has not.
use mathlib.Core.Path.{sym}
use Rattle.shapes.specs.Format.{layouts, whole_groups_of}
use Rattle.shapes.proofs.FormatLaws.{unlisted, ones}
use Rattle.shapes.proofs.whole_groups.Goals as goal

pub returns-in-Ok-F32 : goal.returns-in-Ok-F32
unfolding whole_groups_of layouts
returns-in-Ok-F32 c = rw (rw c.in-Ok-F32.field-0-is at c.in-Ok-F32.ensures) (sym (ones _))

pub returns-in-Ok-Bf16 : goal.returns-in-Ok-Bf16
unfolding whole_groups_of layouts
returns-in-Ok-Bf16 c = rw (rw c.in-Ok-Bf16.field-0-is at c.in-Ok-Bf16.ensures) (sym (ones _))

pub returns-in-Ok-Int8 : goal.returns-in-Ok-Int8
unfolding whole_groups_of layouts
returns-in-Ok-Int8 c = rw (rw c.in-Ok-Int8.field-0-is at c.in-Ok-Int8.ensures) (sym (ones _))

pub returns-in-Ok-Int4 : goal.returns-in-Ok-Int4
unfolding whole_groups_of layouts
returns-in-Ok-Int4 c = rw (rw c.in-Ok-Int4.field-0-is at c.in-Ok-Int4.ensures)

pub returns-in-Err : goal.returns-in-Err
unfolding whole_groups_of
returns-in-Err c = rw (unlisted _ c.in-Err.ensures.0, ones)
