-- Where the block does not fit the output is as it was, and where it fits it is the block's.
use Rattle.replies.proofs.Tried.{tried-done}
use Rattle.attention.specs.Block.{block_scores_of}
use Rattle.scores.proofs.block_scores.Goals as goal

pub returns-in_default : goal.returns-in_default
unfolding block_scores_of
returns-in_default c = rw c.in_default.ensures

pub returns : goal.returns
unfolding block_scores_of
returns c = let h = c.in-Some.ensures in tried-done _ _ h.0 (rw (h.1, h.4, h.5) at c.score_rows.ensures)
