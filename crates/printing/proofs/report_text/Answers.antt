-- The texts that are put are those that the definition joins.
use mathlib.Core.Path.{◌≡◌}
use mathlib.Core.List.{append_assoc}
use native.Mathlib.Omega.{arith}
use borrow.Author.Rules.{rules}
use lib.ListN.{length, take}
use Rattle.std.proofs.lemmas.List.{take_min}
use Rattle.printing.specs.Text.{report_text_of}
use Rattle.printing.proofs.LaidLaws.{has_room}
use Rattle.printing.proofs.PutLaws.{put_then, put_laid}
use Rattle.printing.proofs.report_text.Goals as goal

pub returns : goal.returns
unfolding report_text_of
returns c =
    let h = has_room _ _ c.has_line.ensures c.if-not-has_line.false in
    let a = c.args in
    let all : length a.lens.now ≡ 128 = omega arith in
    let first : take c.min-count.result a.lens.now ≡ take a.layers a.lens.now = rw c.min-count.ensures (rw all at (take_min a.layers a.lens.now)) in
    let p = put_then c.put_named.ensures.put c.put_named-2.ensures.put (omega arith) in
    let q = put_then p c.put.ensures (omega arith) in
    let r = put_then q (rw first at c.put_lengths.ensures.put) (omega arith) in
    let t = simp append_assoc at (put_then r c.put-2.ensures (omega arith)) in
    let s = t.same_reference in
    rw (← c.from.ensures) (put_laid t (search rules) h)
