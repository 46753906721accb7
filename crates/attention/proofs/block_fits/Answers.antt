-- The definition is the two tests.
use Rattle.attention.proofs.block_fits.Goals as goal

pub returns : goal.returns
returns c = rw (c.has_scores.ensures, c.rows_fit.ensures)
