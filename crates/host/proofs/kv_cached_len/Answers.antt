-- The store's promise of the record that the words are, as it is told.
use mathlib.Core.Path.{◌∙◌}
use Rattle.host.proofs.kv_cached_len.Goals as goal

pub returns : goal.returns
returns c = c.told.ensures ∙ rw c.record_of.ensures at c.cached_len.ensures
