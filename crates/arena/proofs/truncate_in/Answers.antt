-- The truncation runs on what the shape is lent, and that is given back.
use Rattle.shapes.specs.Buffers.{buffers}
use Rattle.store.specs.Calls.{truncate_of}
use Rattle.arena.specs.Calls.{truncate_in_of}
use Rattle.arena.proofs.ArenaLaws.{given_back}
use Rattle.arena.proofs.truncate_in.Goals as goal

pub returns : goal.returns
unfolding truncate_in_of
returns c =
    let a = c.args in
    given_back a.«record».now.shape (buffers a.cells.now a.scales.now) c.need_of-need.ensures c.min-c.ensures c.min-s.ensures
    (λ b. truncate_of a.«record».now b a.layer a.t)
    c.truncate_to.ensures
