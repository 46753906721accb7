-- The store's promise of the record that the words are, with its reply as a number and its record as words.
use Rattle.host.proofs.WordLaws.{as_seen}
use Rattle.host.proofs.kv_append.Goals as goal

pub returns : goal.returns
returns c =
    as_seen c.number.ensures c.words_of.ensures
    (rw c.record_of-record.ensures at c.append-reply.ensures)
