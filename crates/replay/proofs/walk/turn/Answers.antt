-- What stands at the place is done, its line is laid, and the place after it is found.
use Prim.Native.Nat.{ℕ, ◌+◌}
use native.Mathlib.Omega.{arith}
use mathlib.Core.Path.{ap}
use Rattle.callfile.specs.Format.{size_of}
use Rattle.callfile.proofs.FormatLaws.{entry_in_file}
use Rattle.replay.specs.Transcript.{played}
use Rattle.replay.proofs.StepLaws.{turn_done}
use Rattle.replay.proofs.walk.turn.Goals as goal

pub overflow_add-result : goal.overflow_add-result
overflow_add-result c =
    let a = c.args in
    omega (arith, entry_in_file a.file.now a.so_far.place, c.size.ensures, ap size_of c.requires.entry_value)

pub returns : goal.returns
returns c =
    let a = c.args in
    turn_done a.file.now (played a.so_far a.cells.now a.scales.now a.out.now) c.requires.entry_value c.tell-line.ensures
    (ap (λ (n : ℕ). a.so_far.place + n) c.size.ensures) c.line_text.ensures c.requires.so_far_in_bounds
