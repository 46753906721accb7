-- The texts that are put are those that the definition joins.
use native.Mathlib.Omega.{arith}
use borrow.Author.Rules.{rules}
use borrow.Author.Tests.{eq-eqb, ne_eqb}
use Rattle.printing.specs.Text.{answer_text_of}
use Rattle.printing.proofs.LaidLaws.{has_room}
use Rattle.printing.proofs.PutLaws.{put_then, put_laid}
use Rattle.printing.proofs.answer_text.Goals as goal

pub returns-then-n-eq0 : goal.returns-then-n-eq0
unfolding answer_text_of
returns-then-n-eq0 c =
    let h = has_room _ _ c.has_line.ensures c.if-not-has_line.false in
    let s = c.put.ensures.same_reference in
    rw (eq-eqb c.args.n 0 c.if-n-eq0.true) (put_laid c.put.ensures (search rules) h)

pub returns : goal.returns
unfolding answer_text_of
returns c =
    let h = has_room _ _ c.has_line.ensures c.if-not-has_line.false in
    let p = put_then c.put_named.ensures.put c.put-2.ensures (omega arith) in
    let s = p.same_reference in
    rw (ne_eqb c.args.n 0 c.if-n-eq0.false, ← c.from.ensures) (put_laid p (search rules) h)
