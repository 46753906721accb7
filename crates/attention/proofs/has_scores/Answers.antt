-- Each arm is a line of the table, and the last what the table has not.
use mathlib.Core.Path.{sym}
use Rattle.attention.specs.Order.{scorings, has_scores_of}
use Rattle.attention.proofs.ScoringLaws.{unscored}
use Rattle.attention.proofs.has_scores.Goals as goal

pub returns-in-Ok-F32 : goal.returns-in-Ok-F32
unfolding has_scores_of scorings
returns-in-Ok-F32 c = rw (rw c.in-Ok-F32.field-0-is at c.in-Ok-F32.ensures)

pub returns-in-Ok-Bf16 : goal.returns-in-Ok-Bf16
unfolding has_scores_of scorings
returns-in-Ok-Bf16 c = rw (rw c.in-Ok-Bf16.field-0-is at c.in-Ok-Bf16.ensures)

pub returns-in-Ok-Int8 : goal.returns-in-Ok-Int8
unfolding has_scores_of scorings
returns-in-Ok-Int8 c = rw (rw c.in-Ok-Int8.field-0-is at c.in-Ok-Int8.ensures)

pub returns-in-Ok-Int4 : goal.returns-in-Ok-Int4
unfolding has_scores_of scorings
returns-in-Ok-Int4 c = rw (rw c.in-Ok-Int4.field-0-is at c.in-Ok-Int4.ensures)

pub returns-in-Err : goal.returns-in-Err
returns-in-Err c = sym (unscored _ c.in-Err.ensures.0)
