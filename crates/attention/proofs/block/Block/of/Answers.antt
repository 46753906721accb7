-- A row that fits has few numbers, and the tests decide.
use mathlib.Core.Path.{◌≡◌}
use mathlib.Core.Bool.{true}
use native.Mathlib.Omega.{arith}
use lib.ListN.{length}
use Rattle.replies.proofs.Flags.{both, passed}
use Rattle.rows.specs.Fit.{rows_fit_of}
use Rattle.rows.proofs.FitLaws.{fits_facts}
use Rattle.attention.proofs.ScoringLaws.{unscored}
use Rattle.attention.proofs.block.Block.of.Goals as goal

pub returns-in_default : goal.returns-in_default
returns-in_default c = rw (unscored _ c.in_default.ensures.0)

pub overflow_cast-numbers : goal.overflow_cast-numbers
overflow_cast-numbers c =
    let a = c.args in
    let h : rows_fit_of a.number a.numbers a.rows (length a.cells.now) (length a.scales.now) ≡ true =
    (both _ _ (passed c.block_fits.ensures c.if-not-block_fits.false)).1 in
    omega (arith, (fits_facts h).small)

pub overflow_cast-numbers-2 : goal.overflow_cast-numbers-2
overflow_cast-numbers-2 c =
    let a = c.args in
    let h : rows_fit_of a.number a.numbers a.rows (length a.cells.now) (length a.scales.now) ≡ true =
    (both _ _ (passed c.block_fits.ensures c.if-not-block_fits.false)).1 in
    omega (arith, (fits_facts h).small)
