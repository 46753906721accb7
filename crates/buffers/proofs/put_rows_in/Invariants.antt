-- The positions passed have their rows, and each turn lends one row of each buffer.
use mathlib.Core.List.{List}
use Prim.Native.Nat.{ℕ, ◌+◌, ◌*◌}
use Rattle.lists.specs.Chunks.{part}
use Rattle.lists.proofs.Loop.{Passed}
use Rattle.rows.specs.Row.{row_cells, row_scales}
use Rattle.buffers.proofs.put_rows_in.Given as goal

abbrev pub invariant-loop-i : goal.invariant-loop-i
invariant-loop-i l =
    let run : ℕ → List ℕ = λ j. part (j * l.width + l.h * l.d) l.d l.numbers in
    Passed l.c l.n (λ j x. row_cells l.format (run j)) l.initial.cells l.i l.cells × Passed l.w l.n (λ j x. row_scales l.format (run j)) l.initial.scales l.i l.scales
