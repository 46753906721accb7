-- Of the rows passed each sum has taken the word's four bytes, and the others are as they were.
use mathlib.Core.Path.{refl, ◌∙◌}
use Prim.Native.Nat.{◌<◌}
use native.Mathlib.Nat.{add-sub_cancel_left}
use lib.ListN.{length}
use native.Mathlib.Omega.{arith}
use Rattle.lists.specs.Chunks.{tab}
use Rattle.lists.proofs.Tab.{tab-set, tab_next}
use Rattle.scores.proofs.words.add_words.Goals as goal

pub loop-i-init : goal.loop-i-init
unfolding tab
loop-i-init c = refl

pub loop-i-preserved : goal.loop-i-preserved
loop-i-preserved c =
    let h : c.loop-i.i < length c.args.sums.now = omega arith in
    tab-set _ _ _ (omega arith) c.loop-i.invariant (c.lane_word.ensures ∙ rw (add-sub_cancel_left, c.loop-i.invariant, tab_next))
