-- Each byte's low code goes to the first half of the sums and its high code to the second, at the same place.
use mathlib.Core.Path.{refl}
use native.Mathlib.Nat.{div-one}
use native.Mathlib.Omega.{arith}
use lib.Ieee.{binary32, mul}
use Rattle.lists.specs.Chunks.{tab}
use Rattle.sums.proofs.RowLaws.{halves_next, halves_all}
use Rattle.sums.proofs.rest.add_group.Goals as goal

pub loop-i-init : goal.loop-i-init
unfolding tab
loop-i-init c = (refl, refl)

pub loop-i-preserved : goal.loop-i-preserved
loop-i-preserved c =
    let k = c.loop-i in
    halves_next (mul binary32 c.args.weight c.args.scale) c.args.bytes.now c.args.out.now k.i k.out c.requires.0 (omega arith) k.invariant
    (rw (c.less_8.ensures, div-one)) (rw c.less_8-in-loop-i.ensures)

pub returns : goal.returns
returns c =
    halves_all (mul binary32 c.args.weight c.args.scale) c.args.bytes.now c.args.out.now _ c.requires.0 (omega arith) c.loop-i.invariant
