-- The store is made in what the shape is lent, and that is given back; refused, it comes back as it went.
use mathlib.Core.Path.{refl}
use Rattle.replies.proofs.Tested.{not_done, handed_on}
use Rattle.shapes.specs.Buffers.{buffers}
use Rattle.arena.proofs.ArenaLaws.{open_done, open_refused}
use Rattle.arena.proofs.open_in.Goals as goal

pub returns-in_err-record : goal.returns-in_err-record
returns-in_err-record c =
    let a = c.args in
    rw (handed_on _ c.in_err-record.was c.from_residual.ensures.1, c.in_err-record.was)
    (open_refused a.shape (buffers a.cells.now a.scales.now) c.need_of-need.ensures c.min-c.ensures c.min-s.ensures
    a.«record».now
    (rw c.in_err-record.was at c.open.ensures)
    (not_done _))

pub returns : goal.returns
returns c =
    let a = c.args in
    open_done a.shape (buffers a.cells.now a.scales.now) c.need_of-need.ensures c.min-c.ensures c.min-s.ensures
    a.«record».now
    (rw c.in_ok-record.was at c.open.ensures)
    refl
