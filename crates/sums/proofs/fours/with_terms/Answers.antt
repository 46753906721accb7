-- The terms of the rows passed are added, and the NaNs of the next ones counted.
use mathlib.Core.Path.{◌≡◌, refl}
use Prim.Native.Nat.{ℕ, ◌+◌, ◌*◌, ◌/◌, ◌<◌}
use native.Mathlib.Omega.{arith}
use lib.ListN.{length}
use Rattle.lists.specs.Chunks.{turns}
use Rattle.lists.proofs.Some.{some_none, sum_most}
use Rattle.lists.proofs.Turns.{turns_next, turns_turn}
use Rattle.sums.proofs.NanLaws.{nan_count, one_at_most, half_number, half_fits}
use Rattle.sums.proofs.fours.with_terms.Goals as goal

pub loop-i-init : goal.loop-i-init
unfolding turns
loop-i-init c = (refl, omega arith)

pub with_term-now-requires : goal.with_term-now-requires
with_term-now-requires c =
    let args = c.args in
    let i = c.loop-i.i in
    let n = args.n in
    let half = length args.cells.now / 2 in
    let e : half ≡ 8 * n = omega arith in
    let w : args.d < n = omega arith in
    let h = half_fits n half e i args.d c.loop-i-test.true w in
    let number = half_number n half e i args.d c.loop-i-test.true w _ args.cells.now c.half_of.ensures.part (omega arith) in
    let few = sum_most i 1 (λ i. nan_count args.next.now (i * n + args.d)) (λ i. one_at_most args.next.now (i * n + args.d)) in (
      omega (arith, h.1, c.half_of.ensures.len),
      rw number (some_none _ (i * n + args.d) _ c.requires.plain h.2),
      omega (arith, h.1, c.half_of-in-loop-i.ensures.len),
      omega (arith, few),
    )

pub loop-i-preserved : goal.loop-i-preserved
loop-i-preserved c =
    let args = c.args in
    let i = c.loop-i.i in
    let n = args.n in
    let half = length args.cells.now / 2 in
    let e : half ≡ 8 * n = omega arith in
    let w : args.d < n = omega arith in
    let cells = half_number n half e i args.d c.loop-i-test.true w _ args.cells.now c.half_of.ensures.part (omega arith) in
    let next = half_number n half e i args.d c.loop-i-test.true w _ args.next.now c.half_of-in-loop-i.ensures.part (omega arith) in
    let count : ℕ → ℕ → ℕ = λ i nans. nans + nan_count args.next.now (i * n + args.d) in
    let counted = rw next at c.with_term-now.ensures.1 in (
      turns_next _ _ _ c.loop-i.invariant.0 (rw cells at c.with_term-now.ensures.0),
      omega (arith, turns_turn i count 0, counted),
    )
