-- The numbers passed are those of the half, and what is left is as it was.
use mathlib.Core.Path.{◌≡◌}
use mathlib.Core.List.{◌++◌}
use lib.ListN.{drop}
use Rattle.lists.specs.Chunks.{tab}
use Rattle.groups.specs.Group.{group_number}
use Rattle.groups.proofs.unpack_half.Given as goal

abbrev pub invariant-loop-i : goal.invariant-loop-i
invariant-loop-i l = l.dst ≡ tab l.i (group_number l.from l.packed l.scale) ++ drop l.i l.initial.dst
