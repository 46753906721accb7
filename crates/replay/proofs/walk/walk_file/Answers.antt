-- A turn that moves on leads on in the walk, nearer to the file's end; one that stays where it is has played the whole file.
use native.Mathlib.Omega.{arith}
use Rattle.shapes.specs.Buffers.{buffers}
use Rattle.replay.specs.Transcript.{played}
use Rattle.replay.proofs.PlayLaws.{playing_start, playing_room, playing_again, playing_stopped}
use Rattle.replay.proofs.walk.walk_file.Goals as goal

pub loop-so_far-init : goal.loop-so_far-init
loop-so_far-init c =
    let a = c.args in record {
      file = rw c.new-reader.ensures.0;
      place = rw (c.new-reader.ensures.1, c.nothing_played-so_far.ensures);
      playing = rw c.nothing_played-so_far.ensures (playing_start a.file.now (buffers a.cells.now a.scales.now) a.out.now);
    }

pub turn-so_far-requires-clause-entry_value : goal.turn-so_far-requires-clause-entry_value
turn-so_far-requires-clause-entry_value c = rw (c.loop-so_far.invariant.file, c.loop-so_far.invariant.place) at c.entry.ensures

pub turn-so_far-requires-clause-so_far_in_bounds : goal.turn-so_far-requires-clause-so_far_in_bounds
turn-so_far-requires-clause-so_far_in_bounds c =
    let a = c.args in
    playing_room a.file.now (buffers a.cells.now a.scales.now) a.out.now _ c.loop-so_far.invariant.playing c.requires.0 c.requires.1

pub returns-then-so_far-reader : goal.returns-then-so_far-reader
returns-then-so_far-reader c =
    let a = c.args in
    playing_stopped a.file.now (buffers a.cells.now a.scales.now) a.out.now _ _ c.loop-so_far.invariant.playing c.turn-so_far.ensures
    (omega (arith, c.loop-so_far.invariant.place))

pub loop-so_far-smaller : goal.loop-so_far-smaller
loop-so_far-smaller c =
    let a = c.args in
    let k = c.loop-so_far in
    let next = playing_again a.file.now (buffers a.cells.now a.scales.now) a.out.now (played k.so_far k.cells k.scales k.out)
    (played c.turn-so_far.result c.turn-so_far.new.cells c.turn-so_far.new.scales c.turn-so_far.new.out)
    k.invariant.playing c.turn-so_far.ensures c.requires.0 c.requires.1 (omega (arith, k.invariant.place)) in
    omega (arith, next.inside, k.invariant.place)

pub loop-so_far-preserved : goal.loop-so_far-preserved
loop-so_far-preserved c =
    let a = c.args in
    let k = c.loop-so_far in record {
      file = rw c.moved-reader.ensures.0 k.invariant.file;
      place = c.moved-reader.ensures.1;
      playing = playing_again a.file.now (buffers a.cells.now a.scales.now) a.out.now _ _ k.invariant.playing c.turn-so_far.ensures
          c.requires.0 c.requires.1 (omega (arith, k.invariant.place));
    }
