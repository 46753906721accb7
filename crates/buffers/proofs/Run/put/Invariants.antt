-- The positions passed have their rows, and each turn writes some more in every head.
use Prim.Native.Nat.{◌-◌}
use Rattle.shapes.specs.Shape.{bytes_of, words_of}
use Rattle.rows.specs.Row.{row_cells, row_scales}
use Rattle.buffers.specs.Side.{side_number}
use Rattle.buffers.proofs.PositionLaws.{Positions}
use Rattle.buffers.proofs.Run.put.Given as goal

abbrev pub invariant-loop-j : goal.invariant-loop-j
invariant-loop-j l =
    Positions (bytes_of l.fn.self.shape) l.fn.self.shape l.fn.self.layer (side_number l.side) l.fn.self.p l.fn.self.n (row_cells l.fn.self.shape.format) l.numbers l.initial.cells l.j l.cells
    × Positions (words_of l.fn.self.shape) l.fn.self.shape l.fn.self.layer (side_number l.side) l.fn.self.p l.fn.self.n (row_scales l.fn.self.shape.format) l.numbers l.initial.scales l.j l.scales

abbrev pub decreases-loop-j : goal.decreases-loop-j
decreases-loop-j l = l.fn.self.n - l.j
