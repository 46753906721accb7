-- Whatever rows the calls leave, the heads passed have them.
use mathlib.Core.List.{List}
use Prim.Native.Nat.{ℕ, ◌*◌, ◌<◌}
use Rattle.lists.specs.Chunks.{joined}
use Rattle.shapes.specs.Shape.{bytes_of, words_of}
use Rattle.buffers.specs.Heads.{LeavesHead}
use Rattle.buffers.specs.Side.{side_number}
use Rattle.buffers.proofs.LoopLaws.{Heads}
use Rattle.buffers.proofs.Run.each_head.Given as goal

abbrev pub invariant-loop-h : goal.invariant-loop-h
invariant-loop-h g l =
    let r = l.fn.self in
    let s = r.shape in
    (rows rows' : ℕ → ℕ → List ℕ)
    → ((h : ℕ) → h < s.heads → LeavesHead g.F.Fn l.write h (r.n * bytes_of s) (r.n * words_of s) (joined r.n (rows h)) (joined r.n (rows' h)))
    → Heads (bytes_of s) s r.layer (side_number l.fn.side) r.p r.n rows l.initial.cells l.h l.cells
    × Heads (words_of s) s r.layer (side_number l.fn.side) r.p r.n rows' l.initial.scales l.h l.scales
