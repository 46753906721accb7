-- The cells and scale words passed are those of the groups passed, and what is left is as it was.
use mathlib.Core.Path.{◌≡◌, refl}
use Prim.Native.Nat.{◌/◌}
use native.Mathlib.Nat.{add-sub_cancel_left}
use native.Mathlib.Omega.{arith}
use lib.ListN.{length}
use borrow.Author.Rules.{rules}
use Rattle.lists.specs.Chunks.{tab, each}
use Rattle.lists.proofs.Loop.{chunk_turn, over, over_done}
use Rattle.lists.proofs.Tab.{tab-set, tab-done}
use Rattle.groups.proofs.GroupLaws.{packed-length}
use Rattle.rows.specs.Row.{int4_cells, int4_scales}
use Rattle.encode.proofs.put_int4.Goals as goal

pub loop-g-init : goal.loop-g-init
unfolding tab each
loop-g-init c = search rules

pub loop-g-preserved : goal.loop-g-preserved
loop-g-preserved c =
    let inv = c.loop-g.invariant in
    let put = c.put_group.ensures in (
      chunk_turn (over (λ i w. packed-length _ _) c.requires.1) inv.0 (omega arith) refl (rw add-sub_cancel_left at put.cells),
      tab-set _ _ _ (omega arith) inv.1 (rw add-sub_cancel_left at put.scale),
    )

pub returns : goal.returns
unfolding int4_cells int4_scales
returns c =
    let e : length c.args.run.now / 32 ≡ length c.args.scales.now = omega arith in record {
      cells = rw e (over_done (over (λ i w. packed-length _ _) c.requires.1) c.loop-g.invariant.0 (omega arith));
      scales = rw e (tab-done _ _ _ c.loop-g.invariant.1 (omega arith) refl);
    }
