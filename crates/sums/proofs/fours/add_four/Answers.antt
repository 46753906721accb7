-- Rows in which no NaN was found are added at once, others one by one; and where none is counted in the next four there is none.
use mathlib.Core.Path.{◌∙◌}
use native.Mathlib.Omega.{arith}
use borrow.Author.Tests.{eqb-true}
use Rattle.attention.proofs.ScoringLaws.{four_of_f32}
use Rattle.sums.proofs.NanLaws.{counted_plain, four_plain}
use Rattle.sums.proofs.SumLaws.{four_rows}
use Rattle.sums.proofs.fours.add_four.Goals as goal

pub add_plain-requires-clause-lengths : goal.add_plain-requires-clause-lengths
add_plain-requires-clause-lengths c =
    let rows = c.requires.rows in
    let behind = c.requires.behind in
    let four = four_of_f32 _ _ _ (rw (rows.0, rows.1, rows.2) at c.args.four.now.fits.0) in
    let next = four_of_f32 _ _ _ (rw (behind.0, behind.1, behind.2) at c.args.next.now.fits.0) in
    (rows.3, four.0, next.0, four.1)

pub returns-then-is_plain : goal.returns-then-is_plain
returns-then-is_plain c =
    let args = c.args in
    let rows = c.requires.rows in
    record {
      sums = rw (rows.2, rows.0, rows.3) (c.add_plain.ensures.sums ∙ four_rows args.weights.now args.four.now.cells.now args.four.now.scales.now args.out.now);
      scan = λ z. four_plain args.next.now.cells.now _ c.add_plain.ensures.counted (eqb-true _ 0 z);
    }

pub nans-requires : goal.nans-requires
nans-requires c =
    let behind = c.requires.behind in
    let next = four_of_f32 _ _ _ (rw (behind.0, behind.1, behind.2) at c.args.next.now.fits.0) in
    omega (arith, next.0, next.1, c.add_rest.auto.out)

pub returns-clause-scan : goal.returns-clause-scan
returns-clause-scan c = λ z. counted_plain c.args.next.now.cells.now c.nans.ensures c.add_rest.auto.out (eqb-true _ 0 z)
