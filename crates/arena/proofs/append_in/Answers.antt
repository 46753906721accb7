-- The append runs on what the shape is lent, and that is given back.
use Rattle.shapes.specs.Buffers.{buffers}
use Rattle.store.specs.Calls.{append_of}
use Rattle.arena.specs.Calls.{append_in_of}
use Rattle.arena.proofs.ArenaLaws.{given_back}
use Rattle.arena.proofs.append_in.Goals as goal

pub returns : goal.returns
unfolding append_in_of
returns c =
    let a = c.args in
    given_back a.«record».now.shape (buffers a.cells.now a.scales.now) c.need_of-need.ensures c.min-c.ensures c.min-s.ensures
    (λ b. append_of a.«record».now b a.layer a.keys.now a.values.now)
    c.append.ensures
