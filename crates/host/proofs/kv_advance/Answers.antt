-- The store's promise of the record that the words are, with its reply as a number and its record as words.
use mathlib.Core.Path.{ap}
use Rattle.host.specs.Words.{record_from}
use Rattle.host.proofs.WordLaws.{as_told}
use Rattle.host.proofs.kv_advance.Goals as goal

pub returns : goal.returns
returns c =
    as_told c.number.ensures (ap record_from c.words_of.ensures)
    (rw c.record_of-record.ensures at c.advance_seq_len-reply.ensures)
