-- The scores passed are those of the positions passed, and what is left is as it was.
use mathlib.Core.Path.{◌≡◌}
use mathlib.Core.List.{◌++◌}
use lib.ListN.{drop}
use Rattle.lists.specs.Chunks.{tab}
use Rattle.shapes.specs.Format.{format_number}
use Rattle.attention.proofs.PartLaws.{score_at}
use Rattle.scores.proofs.rest.score_rest.Given as goal

abbrev pub invariant-loop-p : goal.invariant-loop-p
invariant-loop-p l = l.out ≡ tab l.p (score_at (format_number l.block.format) l.query l.scale l.block.cells.now l.block.scales.now) ++ drop l.p l.initial.out
