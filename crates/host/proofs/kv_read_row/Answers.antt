-- The store's promise of the record that the words are, with its reply as a number.
use mathlib.Core.Path.{refl}
use Rattle.host.proofs.WordLaws.{as_told}
use Rattle.host.proofs.kv_read_row.Goals as goal

pub returns : goal.returns
returns c =
    as_told c.number.ensures refl
    (rw c.record_of-record.ensures at c.read_row.ensures)
