-- Each arm is a line of the table, and the last what the table has not.
use mathlib.Core.Path.{sym, ap}
use Rattle.shapes.specs.Shape.{scale_words_of}
use Rattle.shapes.specs.Format.{Layout, layouts}
use Rattle.shapes.proofs.FormatLaws.{unlisted}
use Rattle.shapes.proofs.scale_words.Goals as goal

pub returns-in-Ok-F32 : goal.returns-in-Ok-F32
unfolding scale_words_of layouts
returns-in-Ok-F32 c = rw (rw c.in-Ok-F32.field-0-is at c.in-Ok-F32.ensures)

pub returns-in-Ok-Bf16 : goal.returns-in-Ok-Bf16
unfolding scale_words_of layouts
returns-in-Ok-Bf16 c = rw (rw c.in-Ok-Bf16.field-0-is at c.in-Ok-Bf16.ensures)

pub returns-in-Ok-Int8 : goal.returns-in-Ok-Int8
unfolding scale_words_of layouts
returns-in-Ok-Int8 c = rw (rw c.in-Ok-Int8.field-0-is at c.in-Ok-Int8.ensures)

pub returns-in-Ok-Int4 : goal.returns-in-Ok-Int4
unfolding scale_words_of layouts
returns-in-Ok-Int4 c = rw (rw c.in-Ok-Int4.field-0-is at c.in-Ok-Int4.ensures)

pub returns-in-Err : goal.returns-in-Err
unfolding scale_words_of layouts
returns-in-Err c = sym (ap (λ (f : Layout). f.words c.args.«head_size») (unlisted _ c.in-Err.ensures.0))
