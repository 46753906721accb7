-- Each byte's low code goes to the first half of the sums and its high code to the second, at the same place.
use lib.Ieee.{binary32, mul}
use Rattle.sums.proofs.RowLaws.{Halves}
use Rattle.sums.proofs.rest.add_group.Given as goal

abbrev pub invariant-loop-i : goal.invariant-loop-i
invariant-loop-i l = Halves (mul binary32 l.weight l.scale) l.bytes l.initial.out l.i l.out
