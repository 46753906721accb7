-- Inside the limits both totals are computed.
use Rattle.shapes.proofs.ShapeLaws.{within-limits, limits_facts, cell_bytes_most, scale-words_most}
use Rattle.shapes.proofs.totals.Goals as goal

pub elements-requires : goal.elements-requires
elements-requires c = let h = within-limits _ c.requires in (h, rw c.cell_bytes.ensures (cell_bytes_most _ (limits_facts _ h)))

pub elements-requires-2 : goal.elements-requires-2
elements-requires-2 c = let h = within-limits _ c.requires in (h, rw c.scale_words.ensures (scale-words_most _ (limits_facts _ h)))

pub returns : goal.returns
returns c = record { cells = rw (c.elements.ensures, c.cell_bytes.ensures); scales = rw (c.elements-2.ensures, c.scale_words.ensures) }
