-- One record more of a file that is being played: what the loop over its records does in a turn.
use Rattle.std.specs.Prelude.{ℕ, ◌+◌, List, length}
use Rattle.printing.specs.Place.{over}
use Rattle.replay.specs.Step.{step_of}
use Rattle.replay.specs.Transcript.{text_of, Play}

-- the step's line behind the text so far
abbrev pub turned : List ℕ → Play → Play
turned file p =
    let s = step_of file p.last in
    let line = text_of s.line in
    record {
      last = s.after;
      text = record { count = p.text.count + length line; out = over p.text.count line p.text.out };
    }
