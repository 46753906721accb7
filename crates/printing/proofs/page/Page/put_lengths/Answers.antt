-- The first lengths have been put, each in at most 11 bytes.
use native.Mathlib.Omega.{arith}
use lib.ListN.{get_or}
use Rattle.printing.specs.Text.{spaced}
use Rattle.printing.proofs.DigitLaws.{word-length}
use Rattle.printing.proofs.LengthLaws.{spaced_next}
use Rattle.printing.proofs.PutLaws.{put_none, put_then}
use Rattle.printing.proofs.page.Page.put_lengths.Goals as goal

pub loop-n-init : goal.loop-n-init
unfolding spaced
loop-n-init c = record { within = omega arith; put = put_none c.args.self.now }

pub loop-n-preserved : goal.loop-n-preserved
loop-n-preserved c =
    let lens = c.args.lens.now in
    let i = c.loop-n.n-index in
    let w = word-length (get_or lens i 0) (omega (arith, c.type_inv.lens i)) in
    let p = rw c.from.ensures at c.put_named.ensures.put in
    record {
      within = omega (arith, p.placed.place);
      put = rw (spaced_next i lens (omega arith)) (put_then c.loop-n.invariant.put p (omega arith));
    }
