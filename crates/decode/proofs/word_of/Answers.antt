-- Four bytes make a number.
use mathlib.Core.Path.{◌∙◌}
use borrow.Author.Tests.{eq-eqb}
use Rattle.lists.proofs.Bytes.{from_le_bytes_little}
use Rattle.decode.proofs.word_of.Goals as goal

pub returns-in-Some : goal.returns-in-Some
returns-in-Some c =
    let whole = c.in-Some.ensures.cases in
    rw (eq-eqb _ 4 whole.long) (c.from_le_bytes.ensures ∙ rw whole.same (from_le_bytes_little _ 3 whole.long))
