-- The number is put after the name, and has at most 20 digits.
use native.Mathlib.Omega.{arith}
use Rattle.printing.proofs.DigitLaws.{decimal-length}
use Rattle.printing.proofs.PutLaws.{put_then}
use Rattle.printing.proofs.page.Page.put_named.Goals as goal

pub returns : goal.returns
returns c =
    let p = c.put_number.ensures in
    record { put = put_then c.put.ensures p (omega arith); upper_bound = omega (arith, p.placed.place, decimal-length c.args.n) }
