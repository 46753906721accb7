-- Each head has the rows of its numbers.
use borrow.Author.Rules.{rules}
use Rattle.buffers.specs.Calls.{cell_row_of, scale_row}
use Rattle.buffers.proofs.Run.put_heads.Goals as goal

pub returns : goal.returns
returns c =
    let a = c.args in
    let s = a.self.shape in
    let m = c.each_head.ensures (cell_row_of s a.numbers.now) (scale_row s a.numbers.now) (λ h w x y x' y' e e' k. search rules) in
    record { cells = m.0; scales = m.1 }
