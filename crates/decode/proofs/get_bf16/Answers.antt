-- The numbers passed are read from the cells passed, and what is left is as it was.
use mathlib.Core.Path.{refl}
use native.Mathlib.Omega.{arith}
use Rattle.lists.specs.Chunks.{tab}
use Rattle.lists.proofs.Tab.{tab-set, tab-done}
use Rattle.rows.specs.Row.{bf16_numbers}
use Rattle.decode.proofs.DecodeLaws.{number_at}
use Rattle.decode.proofs.get_bf16.Goals as goal

pub loop-d-init : goal.loop-d-init
unfolding tab
loop-d-init c = refl

pub loop-d-preserved : goal.loop-d-preserved
loop-d-preserved c =
    tab-set _ _ _ (omega arith) c.loop-d.invariant (rw (c.bf16_to_f32.ensures, c.from_le_bytes.ensures, number_at 1 c.loop-d.d c.args.cells.now c.as_chunks.ensures.front (omega arith)))

pub returns : goal.returns
unfolding bf16_numbers
returns c = tab-done _ _ _ c.loop-d.invariant (omega arith) refl
