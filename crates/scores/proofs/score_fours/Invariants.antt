-- The scores passed are those of the rows passed, four by four, and what is left is as it was.
use mathlib.Core.Path.{◌≡◌}
use mathlib.Core.List.{◌++◌}
use Prim.Native.Nat.{◌*◌}
use lib.ListN.{drop}
use Rattle.lists.specs.Chunks.{tab}
use Rattle.shapes.specs.Format.{format_number}
use Rattle.attention.proofs.PartLaws.{score_at}
use Rattle.scores.proofs.score_fours.Given as goal

abbrev pub invariant-loop-k : goal.invariant-loop-k
invariant-loop-k l =
    l.out ≡ tab (l.k * 4) (score_at (format_number l.block.format) l.query l.scale l.block.cells.now l.block.scales.now) ++ drop (l.k * 4) l.initial.out
