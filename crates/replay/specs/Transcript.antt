-- All that the program prints for a call file, as bytes: the paper's Lines and Bad files, under Call file.
use Rattle.std.specs.Prelude.{ℕ, zero, suc, cond, List, [], ◌++◌, ltb, leb, length, replicate}
use Rattle.shapes.specs.Buffers.{Buffers, buffers}
use Rattle.store.specs.Record.{new_record_of}
use Rattle.store.specs.Calls.{no_shape, store}
use Rattle.printing.specs.Text.{answer_text_of, report_text_of, bad_text_of, Laid, laid}
use Rattle.replay.specs.declared.Played.{Played}
use Rattle.replay.specs.Step.{Printed, answer, report, bad_at, nothing, Walk, walk, step_of}

-- the text of a line
abbrev pub text_of : Printed → List ℕ
text_of (answer n) = answer_text_of n
text_of (report seq bytes lens) = report_text_of seq bytes lens
text_of (bad_at at) = bad_text_of at
text_of nothing = []

-- at the first byte, with no store open
abbrev pub start : Buffers → Walk
start room = walk 0 (store (new_record_of no_shape) room)

-- where a file is left, with the last store, and what is printed up to there
pub record Whole : Type 0 where
  pub last : Walk
  pub text : List ℕ

-- a line before what follows it
abbrev pub headed : List ℕ → Whole → Whole
headed line rest = record { last = rest.last; text = line ++ rest.text }

-- from a place on: the record there with its line, then what follows it; nothing follows the end, or what is no record.
-- k steps are enough where no more than k bytes are left
unfoldable pub walk_from : ℕ → List ℕ → Walk → Whole
walk_from zero file w = record { last = w; text = [] }
walk_from (suc k) file w =
    let s = step_of file w in
    headed (text_of s.line) (cond (ltb w.place s.after.place) (walk_from k file s.after) (record { last = s.after; text = [] }))

-- a whole file in some room; input over the limit prints only `bad at 16384`, and is left there before its first record
unfoldable pub play_of : List ℕ → Buffers → Whole
play_of file room =
    cond (leb (length file) 16384) (walk_from (length file) file (start room)) (record { last = walk 16384 (start room).cache; text = bad_text_of 16384 })

-- 32,768 cell bytes and 2,048 scale words at hand
abbrev pub at_hand : Buffers
at_hand = buffers (replicate 32768 0) (replicate 2048 0)

-- all that the program prints
abbrev pub transcript : List ℕ → List ℕ
transcript file = (play_of file at_hand).text

-- the same with the text at the start of a buffer
pub record Play : Type 0 where
  pub last : Walk
  pub text : Laid

abbrev pub laid_out : Whole → List ℕ → Play
laid_out whole out = record { last = whole.last; text = laid whole.text out }

abbrev pub play_in_of : List ℕ → Buffers → List ℕ → Play
play_in_of file room out = laid_out (play_of file room) out

-- what an answer and the lent memory say together
abbrev pub played : Played → List ℕ → List ℕ → List ℕ → Play
played a cells scales out =
    record { last = walk a.place (store a.after (buffers cells scales)); text = record { count = a.count; out = out } }
