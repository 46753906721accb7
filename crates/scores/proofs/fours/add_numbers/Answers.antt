-- The terms passed are added, and what is left is as it was.
use mathlib.Core.Path.{refl}
use Prim.Native.Nat.{◌+◌, ◌*◌, ◌≤◌}
use native.Mathlib.Omega.{arith}
use Rattle.lists.specs.Chunks.{tab}
use Rattle.lists.proofs.Part.{room}
use Rattle.decode.proofs.DecodeLaws.{number_at}
use Rattle.attention.proofs.OrderLaws.{added_next, added-all}
use Rattle.scores.proofs.fours.add_numbers.Goals as goal

pub loop-i-init : goal.loop-i-init
unfolding tab
loop-i-init c = refl

pub loop-i-preserved : goal.loop-i-preserved
loop-i-preserved c =
    let a = c.args in
    let i = c.loop-i.i in
    let in_rows : i * a.n + a.n ≤ 4 * a.n = room a.n c.loop-i-test.true in
    let number = number_at 3 (i * a.n + a.d) a.cells.now c.as_chunks.ensures.front (omega arith) in
    added_next _ _ _ (omega arith) c.loop-i.invariant (rw (c.word_to_f32.ensures, c.from_le_bytes.ensures, number))

pub returns : goal.returns
returns c = added-all _ _ c.loop-i.invariant (omega arith)
