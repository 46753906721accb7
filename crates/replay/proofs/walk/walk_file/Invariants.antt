-- The reader stands where the file is played up to: the text so far, and what follows it, is the whole text.
use mathlib.Core.Path.{◌≡◌}
use Prim.Native.Nat.{◌-◌}
use lib.ListN.{length}
use Rattle.shapes.specs.Buffers.{buffers}
use Rattle.replay.specs.Transcript.{played}
use Rattle.replay.proofs.PlayLaws.{Playing}
use Rattle.replay.proofs.walk.walk_file.Given as goal

abbrev pub invariant-loop-so_far : goal.invariant-loop-so_far
invariant-loop-so_far l = record {
  file : l.reader.file.now ≡ l.file;
  place : l.reader.place ≡ l.so_far.place;
  playing : Playing l.file (buffers l.initial.cells l.initial.scales) l.initial.out (played l.so_far l.cells l.scales l.out);
}

abbrev pub decreases-loop-so_far : goal.decreases-loop-so_far
decreases-loop-so_far l = length l.file - l.so_far.place
