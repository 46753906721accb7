-- The heads passed have what the calls left, and each turn lends the positions of one head.
use mathlib.Core.Path.{◌∙◌}
use native.Mathlib.Omega.{arith}
use Rattle.buffers.proofs.LoopLaws.{side_below, room_kept, ends_in, ends_size, no_heads, heads_done, head_turn}
use Rattle.buffers.proofs.Run.each_head.Goals as goal

pub loop-h-init : goal.loop-h-init
loop-h-init g c = λ rows rows' leaves. (no_heads, no_heads)

pub write-requires : goal.write-requires
write-requires g c =
    let room = room_kept c.requires.room c.loop-h.auto.cells c.loop-h.auto.scales in
    let k = ends_in c.args.self.inside (side_below c.args.side) c.loop-h-test.true (rw c.from-side.ensures at c.head-span.ensures.value) room in
    c.requires.accepts _ c.loop-h-test.true _ _ (ends_size _ k.cells_at) (ends_size _ k.words_at)

pub loop-h-preserved : goal.loop-h-preserved
loop-h-preserved g c = λ rows rows' leaves.
    let room = room_kept c.requires.room c.loop-h.auto.cells c.loop-h.auto.scales in
    let w = c.loop-h-test.true in
    let k = ends_in c.args.self.inside (side_below c.args.side) w (rw c.from-side.ensures at c.head-span.ensures.value) room in
    let l = c.loop-h.invariant rows rows' leaves in
    let m = leaves _ w _ _ _ _ (ends_size _ k.cells_at) (ends_size _ k.words_at) c.write.ensures in (
      head_turn l.0 (c.write.auto.arg3 ∙ ends_size _ k.cells_at) w k.cells_at m.0,
      head_turn l.1 (c.write.auto.arg4 ∙ ends_size _ k.words_at) w k.words_at m.1,
    )

pub returns : goal.returns
returns g c = λ rows rows' leaves.
    let l = c.loop-h.invariant rows rows' leaves in
    (heads_done l.0 (omega arith), heads_done l.1 (omega arith))
