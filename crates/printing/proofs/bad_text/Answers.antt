-- The texts that are put are those that the definition joins.
use native.Mathlib.Omega.{arith}
use borrow.Author.Rules.{rules}
use Rattle.printing.specs.Text.{bad_text_of}
use Rattle.printing.proofs.LaidLaws.{has_room}
use Rattle.printing.proofs.PutLaws.{put_then, put_laid}
use Rattle.printing.proofs.bad_text.Goals as goal

pub returns : goal.returns
unfolding bad_text_of
returns c =
    let h = has_room _ _ c.has_line.ensures c.if-not-has_line.false in
    let p = put_then c.put_named.ensures.put c.put.ensures (omega arith) in
    let s = p.same_reference in
    put_laid p (search rules) h
