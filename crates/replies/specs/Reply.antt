-- The number of each reply, as the table of the paper's section Replies has it.
use Rattle.std.specs.Prelude.{ℕ, Result, Ok, Err}
use Rattle.replies.specs.declared.Refusal.{Refusal}
use Rattle.replies.specs.declared.Refusal.TheVariants.{Shape, Room, Lengths, Layer, Head, Format, Size, Position, Full, Sequence}

abbrev pub refusal_number : Refusal → ℕ
refusal_number Shape = 1
refusal_number Room = 2
refusal_number Lengths = 3
refusal_number Layer = 4
refusal_number Head = 5
refusal_number Format = 6
refusal_number Size = 7
refusal_number Position = 8
refusal_number Full = 9
refusal_number Sequence = 10

-- 0 of a call that was done
abbrev pub reply_number : {A : Type 0} → Result A Refusal → ℕ
reply_number (Ok done) = 0
reply_number (Err refusal) = refusal_number refusal
