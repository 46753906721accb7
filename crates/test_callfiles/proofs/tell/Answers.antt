-- The report lies in the buffer that it was laid into.
use mathlib.Core.Path.{sym, ◌∙◌}
use native.Mathlib.Omega.{arith}
use lib.Seq.{length-take-le}
use Rattle.printing.proofs.LaidLaws.{laid_first, laid_in}
use Rattle.test_callfiles.proofs.tell.Goals as goal

pub slice_bounds-out-end : goal.slice_bounds-out-end
slice_bounds-out-end g c = laid_in _ _ (c.report_line-n.ensures ∙ laid_first _ _ (omega arith))

pub slice_bounds-write_all-end : goal.slice_bounds-write_all-end
slice_bounds-write_all-end g c =
    sym (length-take-le _ _ (laid_in _ _ (c.report_line-n.ensures ∙ laid_first _ _ (omega arith))))
