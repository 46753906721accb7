-- The numbers passed are those of the groups passed, and what is left is as it was.
use mathlib.Core.Path.{◌≡◌, refl, ◌∙◌}
use Prim.Native.Nat.{◌*◌, ◌/◌}
use native.Mathlib.Nat.{add-sub_cancel_left}
use native.Mathlib.Omega.{arith}
use lib.ListN.{length}
use borrow.Author.Rules.{rules}
use Rattle.lists.specs.Chunks.{each}
use Rattle.lists.proofs.Loop.{chunk_turn, over, over_done}
use Rattle.lists.proofs.Part.{part_length}
use Rattle.groups.proofs.GroupLaws.{unpacked-length}
use Rattle.rows.specs.Row.{int4_numbers}
use Rattle.decode.proofs.DecodeLaws.{unpack_all}
use Rattle.decode.proofs.get_int4.Goals as goal

pub loop-g-init : goal.loop-g-init
unfolding each
loop-g-init c = search rules

pub loop-g-preserved : goal.loop-g-preserved
loop-g-preserved c =
    let loop = c.loop-g in
    let got = simp (add-sub_cancel_left, c.word_to_f32.ensures) at c.unpack_i4_group.ensures.words in
    let numbers = part_length (loop.g * 32) 32 loop.out (omega arith) in
    let bytes = part_length (loop.g * 16) 16 c.args.cells.now (omega arith) in
    chunk_turn (over (λ i w. unpacked-length _ _) c.requires.0) loop.invariant (omega arith) refl (got ∙ unpack_all _ _ _ numbers bytes)

pub returns : goal.returns
unfolding int4_numbers
returns c =
    let e : length c.args.out.now / 32 ≡ length c.args.scales.now = omega arith in
    rw e (over_done (over (λ i w. unpacked-length _ _) c.requires.0) c.loop-g.invariant (omega arith))
