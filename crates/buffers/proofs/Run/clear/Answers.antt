-- Each head has its zeros, which are rows of zeros.
use mathlib.Core.Path.{◌≡◌}
use lib.ListN.{length, replicate}
use borrow.Author.Rules.{rules}
use Rattle.shapes.specs.Shape.{bytes_of, words_of}
use Rattle.buffers.specs.Write.{zeros}
use Rattle.buffers.specs.Side.{side_number}
use Rattle.buffers.proofs.LoopLaws.{zero_rows}
use Rattle.buffers.proofs.Run.clear.Goals as goal

pub returns : goal.returns
returns c =
    let r = c.args.self in
    let m = c.each_head.ensures (zeros (bytes_of r.shape) (side_number c.args.side)) (zeros (words_of r.shape) (side_number c.args.side))
    (λ h w x y x' y' e e' k.
    let z : (x'.now ≡ replicate (length x.now) 0) × (y'.now ≡ replicate (length y.now) 0) = search rules in
    (zero_rows _ r.n _ e z.0, zero_rows _ r.n _ e' z.1)) in
    record { cells = m.0; scales = m.1 }
