-- The terms of the rows passed are added, in their order; and where no NaN was found in the next four rows, there is none.
use mathlib.Core.Path.{◌≡◌}
use mathlib.Core.Bool.{true}
use Prim.Native.Nat.{◌*◌}
use lib.ListN.{length}
use Rattle.lists.specs.Chunks.{turns, part}
use Rattle.sums.proofs.NanLaws.{Plain}
use Rattle.sums.proofs.SumLaws.{row_added}
use Rattle.sums.proofs.fours.add_f32_rows.Given as goal

abbrev pub invariant-loop-k : goal.invariant-loop-k
invariant-loop-k l =
    (l.out ≡ turns (l.k * 4) (row_added l.block l.weights) l.initial.out)
    × (l.is_plain ≡ true → Plain (4 * length l.initial.out) (part (l.k * 4 * l.block.row_cells) (4 * l.block.row_cells) l.block.cells.now))
