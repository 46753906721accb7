-- The numbers passed are read from the cells passed, and what is left is as it was.
use mathlib.Core.Path.{◌≡◌}
use mathlib.Core.List.{◌++◌}
use lib.ListN.{drop}
use Rattle.lists.specs.Chunks.{tab}
use Rattle.rows.specs.Row.{f32_at}
use Rattle.decode.proofs.get_f32.Given as goal

abbrev pub invariant-loop-d : goal.invariant-loop-d
invariant-loop-d l = l.out ≡ tab l.d (f32_at l.cells) ++ drop l.d l.initial.out
