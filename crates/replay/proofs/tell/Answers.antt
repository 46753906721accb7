-- An append lies in the file, and an advance changes the record alone.
use mathlib.Core.Path.{sym, ap, ◌∙◌}
use Rattle.replies.specs.Outcome.{Outcome}
use Rattle.shapes.specs.Buffers.{buffers}
use Rattle.store.specs.declared.Record.{Record}
use Rattle.store.specs.Calls.{store}
use Rattle.callfile.proofs.FormatLaws.{append_in_file}
use Rattle.replay.specs.Step.{answers, advance_in}
use Rattle.replay.proofs.tell.Goals as goal

pub append_from-requires : goal.append_from-requires
append_from-requires c = append_in_file c.args.file.now c.args.at (sym c.requires ∙ c.in-Append.is)

pub returns-in-Advance : goal.returns-in-Advance
unfolding advance_in
returns-in-Advance c =
    rw c.in-Advance.is
    (ap (λ (o : Outcome Record). answers (record { reply = o.reply; result = store o.result (buffers c.args.cells.now c.args.scales.now) })) c.advance_seq_len.ensures)
