-- The terms of the rows passed are added, in their order; and where no NaN was found in the next four rows, there is none.
use mathlib.Core.Path.{◌≡◌, refl}
use Prim.Native.Nat.{◌+◌, ◌-◌, ◌*◌}
use native.Mathlib.Nat.{add-sub_cancel_left}
use native.Mathlib.Omega.{arith}
use lib.ListN.{length}
use Rattle.lists.specs.Chunks.{turns, part}
use Rattle.sums.proofs.SumLaws.{rows_after}
use Rattle.sums.proofs.fours.add_f32_rows.Goals as goal

pub loop-k-init : goal.loop-k-init
unfolding turns
loop-k-init c = (refl, λ z. cc)

pub loop-k-preserved : goal.loop-k-preserved
loop-k-preserved c =
    let a = c.args in
    let p = c.loop-k.k * 4 in
    let four = c.part-four.ensures in
    let next = c.part-next.ensures in
    let s : (c.loop-k.k + 1) * 4 ≡ p + 4 = omega arith in
    rw s (
      rows_after a.block.now a.weights.now p 4 a.out.now {u = part p (p + 4 - p) a.weights.now} c.loop-k.out (omega arith)
          four.shape.0 four.shape.2 four.cells four.scales (rw add-sub_cancel_left) c.loop-k.invariant.0 c.add_four-is_plain.ensures.sums,
      λ z. rw (next.cells, c.loop-k.auto.out) at (c.add_four-is_plain.ensures.scan z),
    )

pub returns : goal.returns
returns c =
    let a = c.args in
    let p = c.saturating_sub-fours.result * 4 in
    let m = length a.weights.now in
    let rest = c.part-rest.ensures in
    let all : c.loop-k.k ≡ c.saturating_sub-fours.result = omega arith in
    let whole : p + (m - p) ≡ m = omega arith in
    rw whole at
    (rows_after a.block.now a.weights.now p (m - p) a.out.now c.loop-k.out (omega arith) rest.shape.0 rest.shape.2 rest.cells rest.scales refl
    (rw all at c.loop-k.invariant.0) c.add_rest.ensures)
