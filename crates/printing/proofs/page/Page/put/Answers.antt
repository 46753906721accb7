-- The text is copied to its place.
use mathlib.Core.Path.{refl}
use native.Mathlib.Omega.{arith}
use Rattle.printing.proofs.PlaceLaws.{placed_copy, placed_length}
use Rattle.printing.proofs.page.Page.put.Goals as goal

pub returns : goal.returns
returns c =
    let p = c.args.self.now in
    let q = placed_copy p.at c.args.text.now p.out.now refl in
    let e = c.copy_from_slice.ensures.after in
    record { same_reference = refl; len = rw e (placed_length q (omega arith)); placed = rw e q }
