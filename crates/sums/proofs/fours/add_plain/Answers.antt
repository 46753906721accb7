-- At the places passed the four terms are added and the NaNs of the next rows counted, and what is left is as it was.
use mathlib.Core.Path.{◌≡◌, refl, sym, ◌∙◌}
use Prim.Native.Nat.{ℕ, ◌+◌, ◌*◌, ◌<◌}
use native.Mathlib.Omega.{arith}
use lib.ListN.{length, get_or}
use lib.Ieee.{Float, nan}
use Rattle.lists.specs.Chunks.{tab, turns}
use Rattle.lists.proofs.Some.{sum_most}
use Rattle.lists.proofs.Tab.{tab-set, tab-done, tab_next}
use Rattle.lists.proofs.Turns.{turns_next}
use Rattle.attention.specs.Order.{f32_term}
use Rattle.attention.proofs.OrderLaws.{rows_from}
use Rattle.sums.proofs.NanLaws.{four_nans, four_at_most}
use Rattle.sums.proofs.fours.add_plain.Goals as goal

pub loop-d-init : goal.loop-d-init
unfolding tab turns
loop-d-init c = (refl, refl)

pub with_terms-tally-requires-clause-few : goal.with_terms-tally-requires-clause-few
with_terms-tally-requires-clause-few c =
    let n = length c.args.out.now in
    omega (arith, sum_most c.loop-d.d 4 (four_nans c.args.next.now n) (four_at_most c.args.next.now n))

pub loop-d-preserved : goal.loop-d-preserved
loop-d-preserved c =
    let out = c.args.out.now in
    let tally = c.with_terms-tally.ensures in
    let h : c.loop-d.d < length out = omega arith in (
      tab-set _ _ out (omega arith) c.loop-d.invariant.0 (tally.sum ∙ rw (c.loop-d.invariant.0, tab_next)),
      turns_next c.loop-d.d _ 0 c.loop-d.invariant.1 tally.nans,
    )

pub returns-clause-sums : goal.returns-clause-sums
returns-clause-sums c =
    let e : c.loop-d.d ≡ length c.args.out.now = omega arith in
    let term : ℕ → ℕ → Float = λ i d. f32_term (get_or c.args.weights.now i nan) c.args.cells.now (i * length c.args.out.now + d) in
    tab-done _ _ _ c.loop-d.invariant.0 e refl ∙ sym (rows_from 4 term c.args.out.now)
