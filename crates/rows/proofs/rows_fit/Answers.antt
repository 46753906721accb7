-- The definition is the tests, and past the first two no product is large.
use native.Mathlib.Omega.{arith}
use borrow.Author.Tests.{le-leb, lt-leb}
use Rattle.std.proofs.Math.Bool.{and_assoc}
use Rattle.shapes.proofs.ShapeLaws.{row_most}
use Rattle.rows.specs.Fit.{rows_fit_of}
use Rattle.rows.proofs.FitLaws.{rows_few}
use Rattle.rows.proofs.rows_fit.Goals as goal
use Rattle.rows.proofs.rows_fit.Goals.{then-d-gt256-via-then-d-gt256, then-d-gt256-via-else-d-gt256+then-m-gt4096}

pub returns-then-d-gt256 : goal.returns-then-d-gt256
unfolding rows_fit_of
returns-then-d-gt256 c =
    elim c.then-d-gt256.branch [
      | then-d-gt256-via-then-d-gt256 w ↦ rw (lt-leb _ 256 w.if-d-gt256.true)
      | then-d-gt256-via-else-d-gt256+then-m-gt4096 w ↦ rw (le-leb _ 256 w.if-d-gt256.false, lt-leb _ 4096 w.if-m-gt4096.true)
    ]

pub overflow_mul-result : goal.overflow_mul-result
overflow_mul-result c = omega (arith, rows_few c.if-m-gt4096.false (row_most _ _ c.if-d-gt256.false).0 c.cell_bytes.ensures)

pub overflow_mul-result-2 : goal.overflow_mul-result-2
overflow_mul-result-2 c = omega (arith, rows_few c.if-m-gt4096.false (row_most _ _ c.if-d-gt256.false).1 c.scale_words.ensures)

pub returns : goal.returns
unfolding rows_fit_of
returns c =
    rw (le-leb _ 256 c.if-d-gt256.false, le-leb _ 4096 c.if-m-gt4096.false, c.is_known.ensures, c.whole_groups.ensures, c.cell_bytes.ensures, c.scale_words.ensures)
    (rw (and_assoc, and_assoc))
