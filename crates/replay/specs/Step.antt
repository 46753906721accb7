-- What the record at a place of a call file does and has printed: the paper's section Call file.
use Rattle.std.specs.Prelude.{ℕ, cond, List, eqb, take}
use Rattle.replies.specs.Reply.{reply_number}
use Rattle.replies.specs.Outcome.{Outcome}
use Rattle.shapes.specs.Buffers.{buffers}
use Rattle.store.specs.Record.{seq_len_of}
use Rattle.store.specs.Calls.{Store, store, advance_of, memory_bytes_of}
use Rattle.store.specs.declared.Record.{Record}
use Rattle.callfile.specs.Format.{entry_at_of, place_after, keys_at, values_at}
use Rattle.callfile.specs.declared.Entry.{Entry}
use Rattle.callfile.specs.declared.Entry.TheVariants.{Open, Append, Truncate, Advance, Report, End, Bad}
use Rattle.arena.specs.Calls.{open_in, append_in_of, truncate_in_of}
use Rattle.replay.specs.declared.Line.{Line}
use Rattle.replay.specs.declared.Line.TheVariants.{Answer, Counts, Stop, Nothing}

-- a line of output: ok for 0 and no N for any other N; seq, bytes and a length per layer; bad at a place; none at the end
pub data Printed : Type 0 where
  answer : ℕ → Printed
  report : ℕ → ℕ → List ℕ → Printed
  bad_at : ℕ → Printed
  nothing : Printed

-- what is printed, and the store afterwards
pub record Effect : Type 0 where
  pub line : Printed
  pub cache : Store

abbrev pub answers : Outcome Store → Effect
answers o = record { line = answer o.reply; cache = o.result }

-- advance: the record alone
unfoldable pub advance_in : ℕ → Store → Outcome Store
advance_in n cache = let o = advance_of cache.rec n in record { reply = o.reply; result = store o.result cache.memory }

-- a report: the sequence number, the byte count and the length of each layer
abbrev pub reported : Record → ℕ → Printed
reported r bytes = report (seq_len_of r) bytes (take r.shape.layers r.lens)

unfoldable pub report_of : Record → Printed
report_of r = let o = memory_bytes_of r in cond (eqb o.reply 0) (reported r o.result) (answer o.reply)

-- what each kind of record does to the store
abbrev pub effect_of : List ℕ → ℕ → Entry → Store → Effect
effect_of file at (Open s) cache = answers (open_in s cache)
effect_of file at (Append l n) cache = answers (append_in_of l (keys_at n file at) (values_at n file at) cache)
effect_of file at (Truncate l t) cache = answers (truncate_in_of l t cache)
effect_of file at (Advance n) cache = answers (advance_in n cache)
effect_of file at Report cache = record { line = report_of cache.rec; cache = cache }
effect_of file at End cache = record { line = nothing; cache = cache }
effect_of file at Bad cache = record { line = bad_at at; cache = cache }

-- a place of the file, and the store there
pub record Walk : Type 0 where
  pub place : ℕ
  pub cache : Store

abbrev pub walk : ℕ → Store → Walk
walk place cache = record { place = place; cache = cache }

-- a step: what the record at the place has printed, and the walk past it
pub record Step : Type 0 where
  pub line : Printed
  pub after : Walk

unfoldable pub step_of : List ℕ → Walk → Step
step_of file w =
    let e = effect_of file w.place (entry_at_of file w.place) w.cache in
    record { line = e.line; after = walk (place_after file w.place) e.cache }

-- what a line says beside its record
abbrev pub printed : Line → Record → Printed
printed (Answer reply) r = answer (reply_number reply)
printed (Counts bytes) r = reported r bytes
printed (Stop at) r = bad_at at
printed Nothing r = nothing

-- what a line, its record and the lent memory say together
abbrev pub effect : Line → Record → List ℕ → List ℕ → Effect
effect line r cells scales = record { line = printed line r; cache = store r (buffers cells scales) }
