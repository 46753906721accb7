-- The numbers passed are those of the groups passed, and what is left is as it was.
use Prim.Native.Nat.{◌*◌}
use lib.ListN.{length, get_or}
use Rattle.lists.specs.Chunks.{part}
use Rattle.lists.proofs.Loop.{Passed}
use Rattle.numbers.specs.Word.{float}
use Rattle.groups.specs.Group.{unpacked}
use Rattle.decode.proofs.get_int4.Given as goal

abbrev pub invariant-loop-g : goal.invariant-loop-g
invariant-loop-g l = Passed 32 (length l.scales) (λ i x. unpacked (part (i * 16) 16 l.cells) (float (get_or l.scales i 0))) l.initial.out l.g l.out
