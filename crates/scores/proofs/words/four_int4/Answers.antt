-- Each total so far is that of the groups passed of its own row.
use mathlib.Core.Path.{◌≡◌, refl, ◌∙◌}
use native.Mathlib.Nat.{add-sub_cancel_left}
use Prim.Native.Nat.{◌/◌}
use native.Mathlib.Omega.{arith}
use borrow.Author.Rules.{rules}
use lib.ListN.{length}
use Rattle.lists.specs.Chunks.{turns}
use Rattle.lists.proofs.Turns.{turns_next}
use Rattle.scores.proofs.GroupLaws.{four_added, four_int4_dots}
use Rattle.scores.proofs.words.four_int4.Goals as goal

pub loop-g-init : goal.loop-g-init
unfolding turns
loop-g-init c = (refl, refl)

pub loop-g-preserved : goal.loop-g-preserved
loop-g-preserved c =
    let sums = simp add-sub_cancel_left at c.four_groups-sums.ensures in
    (turns_next _ _ _ c.loop-g.invariant.0 (c.add_groups.ensures ∙ four_added _ _ _ _ _ c.loop-g.totals c.loop-g.invariant.1 sums), search rules)

pub returns : goal.returns
returns c =
    let e : c.loop-g.g ≡ length c.args.query.now / 32 = omega arith in
    four_int4_dots _ _ _ (length c.args.query.now / 32) refl (rw e at c.loop-g.invariant.0)
