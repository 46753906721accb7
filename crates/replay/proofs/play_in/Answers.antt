-- A file over the limit prints one line before its first record; any other is walked.
use mathlib.Core.Path.{ap, ◌∙◌}
use Prim.Native.Nat.{◌<◌, ◌≤◌}
use native.Mathlib.Omega.{arith}
use lib.ListN.{length}
use borrow.Author.Tests.{le-leb, lt-leb}
use Rattle.shapes.specs.Buffers.{buffers}
use Rattle.printing.specs.Text.{Laid, bad_text_of}
use Rattle.printing.proofs.LaidLaws.{laid_first}
use Rattle.replay.specs.Step.{walk}
use Rattle.replay.specs.Transcript.{start, play_of}
use Rattle.replay.proofs.play_in.Goals as goal

pub returns-then-over : goal.returns-then-over
unfolding play_of
returns-then-over c =
    let a = c.args in
    let over : 16384 < length a.file.now = omega arith in
    rw (lt-leb _ 16384 over, c.not_open.ensures)
    (ap (λ (l : Laid). record { last = walk 16384 (start (buffers a.cells.now a.scales.now)).cache; text = l })
    (c.bad_text-count.ensures ∙ laid_first (bad_text_of 16384) a.out.now (omega arith)))

pub returns : goal.returns
unfolding play_of
returns c = let within : length c.args.file.now ≤ 16384 = omega arith in rw (le-leb _ 16384 within) c.walk_file.ensures
