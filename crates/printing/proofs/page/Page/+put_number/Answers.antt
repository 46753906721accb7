-- The digits of the tenth are put first, and the last digit after them.
use native.Mathlib.Omega.{arith}
use Rattle.printing.proofs.DigitLaws.{decimal-last, tenth_length}
use Rattle.printing.proofs.PutLaws.{put_then}
use Rattle.printing.proofs.page.Page.+put_number.Goals as goal

pub put-requires-2 : goal.put-requires-2
put-requires-2 t c = omega (arith, tenth_length c.args.n (omega arith), c.put_number.ensures.placed.place, c.put_number.ensures.len)

pub returns : goal.returns
returns t c = rw (decimal-last c.args.n (omega arith) (omega arith)) (put_then c.put_number.ensures c.put-2.ensures (omega arith))
