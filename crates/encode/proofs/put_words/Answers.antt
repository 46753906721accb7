-- The cells passed hold the numbers passed, and what is left is as it was.
use mathlib.Core.Path.{refl, ◌∙◌}
use native.Mathlib.Omega.{arith}
use borrow.Author.Rules.{rules}
use Rattle.std.specs.Int.{w32}
use Rattle.lists.specs.Chunks.{each}
use Rattle.lists.proofs.Loop.{chunk_turn, over, over_done}
use Rattle.rows.specs.Row.{f32_cells}
use Rattle.lists.proofs.Bytes.{little-length, le_bytes_little}
use Rattle.encode.proofs.put_words.Goals as goal

pub loop-d-init : goal.loop-d-init
unfolding each
loop-d-init c = search rules

pub loop-d-preserved : goal.loop-d-preserved
loop-d-preserved c =
    chunk_turn (over (λ i w. little-length 4 _) c.requires) c.loop-d.invariant (omega arith) refl
    (c.copy_from_slice.ensures.after ∙ c.to_le_bytes.ensures ∙ le_bytes_little w32 _)

pub returns : goal.returns
unfolding f32_cells
returns c = over_done (over (λ i w. little-length 4 _) c.requires) c.loop-d.invariant (omega arith)
