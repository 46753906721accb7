-- The two halves are lent one after the other, and together they are the whole.
use Rattle.groups.proofs.GroupLaws.{halves}
use Rattle.groups.proofs.unpack.Goals as goal

pub returns : goal.returns
returns c =
    let start = c.args in
    rw (c.unpack_half.ensures, c.unpack_half-2.ensures)
    (halves start.packed.now start.scale start.dst.now)
