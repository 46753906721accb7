-- The cells and scale words passed are those of the groups passed, and what is left is as it was.
use mathlib.Core.Path.{◌≡◌}
use mathlib.Core.List.{◌++◌}
use lib.ListN.{length, drop}
use Rattle.lists.specs.Chunks.{tab}
use Rattle.lists.proofs.Loop.{Passed}
use Rattle.numbers.specs.Word.{word}
use Rattle.groups.specs.Group.{packed}
use Rattle.rows.specs.Row.{group, group_scale_of}
use Rattle.encode.proofs.put_int4.Given as goal

abbrev pub invariant-loop-g : goal.invariant-loop-g
invariant-loop-g l =
    Passed 16 (length l.initial.scales) (λ i x. packed (group i l.run) (group_scale_of i l.run)) l.initial.cells l.g l.cells
    × (l.scales ≡ tab l.g (λ i. word (group_scale_of i l.run)) ++ drop l.g l.initial.scales)
