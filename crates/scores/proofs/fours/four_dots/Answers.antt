-- Past F32 the one format that has scores is INT4.
use Rattle.attention.proofs.ScoringLaws.{four_of_f32, scored_int4}
use Rattle.scores.proofs.BlockLaws.{four_of_int4, dots_f32, dots_int4}
use Rattle.scores.proofs.fours.four_dots.Goals as goal

pub four_f32-requires : goal.four_f32-requires
four_f32-requires c = four_of_f32 _ _ _ (rw (c.requires.0, c.requires.1, c.in-F32.is) at c.args.four.now.fits.0)

pub returns-in-F32 : goal.returns-in-F32
returns-in-F32 c = rw c.in-F32.is (dots_f32 _ _ _ c.four_f32.ensures)

pub four_int4-requires : goal.four_int4-requires
four_int4-requires c =
    let four = c.args.four.now in
    let t = scored_int4 _ four.fits.0.0 c.in_default.not-F32 in
    let h = four_of_int4 _ _ _ (rw (c.requires.0, c.requires.1, t) at four.fits.0) in
    record { rows = h.0; groups = (h.1, h.2) }

pub returns-in_default : goal.returns-in_default
returns-in_default c =
    let four = c.args.four.now in
    let t = scored_int4 _ four.fits.0.0 c.in_default.not-F32 in
    let h = four_of_int4 _ _ _ (rw (c.requires.0, c.requires.1, t) at four.fits.0) in
    rw t (dots_int4 _ _ _ h.1 c.four_int4.ensures)
