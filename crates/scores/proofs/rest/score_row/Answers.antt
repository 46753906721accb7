-- Each arm is a format that has scores, with the lengths that it has; no other is asked for.
use native.Mathlib.Omega.{arith}
use Rattle.attention.specs.Order.{scorings, row_dot}
use Rattle.attention.proofs.ScoringLaws.{f32_row, int4_row, scored_other}
use Rattle.scores.proofs.rest.score_row.Goals as goal

pub score_f32-requires : goal.score_f32-requires
score_f32-requires c = f32_row _ _ _ (rw (c.requires.0, c.requires.1, c.in-F32.is) at c.args.row.now.fits.0)

pub score_int4-requires : goal.score_int4-requires
score_int4-requires c = int4_row _ _ _ (rw (c.requires.0, c.requires.1, c.in-Int4.is) at c.args.row.now.fits.0)

pub returns-in-F32 : goal.returns-in-F32
unfolding row_dot scorings
returns-in-F32 c = rw c.in-F32.is c.score_f32.ensures

pub returns-in-Int4 : goal.returns-in-Int4
unfolding row_dot scorings
returns-in-Int4 c = rw c.in-Int4.is c.score_int4.ensures

pub unreachable-requires : goal.unreachable-requires
unreachable-requires c = scored_other _ c.args.row.now.fits.0.0 (λ a. grind (arith, a, c.in-Bf16.is)) (λ a. grind (arith, a, c.in-Bf16.is))
