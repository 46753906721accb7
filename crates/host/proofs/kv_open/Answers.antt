-- The store's promise, with its reply as a number and its record as words; refused, those of no store.
use mathlib.Core.Path.{◌∙◌}
use Rattle.host.proofs.WordLaws.{as_seen, opened_told}
use Rattle.host.proofs.kv_open.Goals as goal

pub returns : goal.returns
returns c =
    as_seen c.number.ensures c.words_of.ensures
    (opened_told c.open-opened.result _ (rw c.not_open.ensures at c.unwrap_or.ensures) ∙ c.open-opened.ensures)
