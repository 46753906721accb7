-- The digits before an index have been taken in, and one more at a turn.
use mathlib.Core.Path.{◌≡◌, refl, ◌∙◌}
use native.Mathlib.Omega.{arith}
use Prim.Native.Nat.{◌+◌, ◌<◌}
use lib.ListN.{get_or, take, drop, length-take}
use Rattle.std.proofs.lemmas.List.{get_or-take, get_or-drop}
use Rattle.lists.specs.Chunks.{turns}
use Rattle.lists.proofs.Turns.{turns_next}
use Rattle.std.proofs.lemmas.Grind.{common_steps}
use Rattle.test_lines.specs.Line.{digit_of, with_digit_of}
use borrow.Author.Rules.{rules}
use Rattle.test_lines.proofs.hex_at.Goals as goal

pub loop-b-init : goal.loop-b-init
unfolding turns
loop-b-init c = search rules

pub loop-b-preserved : goal.loop-b-preserved
loop-b-preserved c =
    let i = c.loop-b.b-index in
    let r : c.in-Some.rest.now ≡ drop c.args.at c.args.text.now = grind (arith, common_steps) in
    let d : c.in-Some-get.digits.now ≡ take 8 c.in-Some.rest.now = grind (arith, common_steps) in
    let n : i < 8 = grind (arith, length-take) in
    let h : get_or c.in-Some-get.digits.now i 0 ≡ get_or c.args.text.now (c.args.at + i) 0 = rw (d, get_or-take 8 c.in-Some.rest.now i 0 n, r, get_or-drop) refl in
    turns_next i (λ j x. with_digit_of x (digit_of (get_or c.args.text.now (c.args.at + j) 0))) 0 c.loop-b.invariant (c.with_digit-word.ensures ∙ rw (c.digit.ensures, h))
