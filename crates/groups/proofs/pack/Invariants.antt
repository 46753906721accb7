-- The bytes passed are those of the group, and what is left is as it was.
use mathlib.Core.Path.{◌≡◌}
use mathlib.Core.List.{◌++◌}
use lib.ListN.{drop}
use Rattle.lists.specs.Chunks.{tab}
use Rattle.groups.specs.Group.{byte_at}
use Rattle.groups.proofs.pack.Given as goal

abbrev pub invariant-loop-i : goal.invariant-loop-i
invariant-loop-i l = l.dst ≡ tab l.i (byte_at l.src l.scale) ++ drop l.i l.initial.dst
