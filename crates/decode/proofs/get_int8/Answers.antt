-- The numbers passed are read from the cells passed, and what is left is as it was.
use mathlib.Core.Path.{refl}
use native.Mathlib.Omega.{arith}
use Rattle.lists.specs.Chunks.{tab}
use Rattle.lists.proofs.Tab.{tab-set, tab-done}
use Rattle.rows.specs.Row.{int8_numbers}
use Rattle.decode.proofs.get_int8.Goals as goal

pub loop-d-init : goal.loop-d-init
unfolding tab
loop-d-init c = refl

pub loop-d-preserved : goal.loop-d-preserved
loop-d-preserved c =
    tab-set _ _ _ (omega arith) c.loop-d.invariant (rw (c.f32_to_word.ensures, c.dequantize_i8.ensures))

pub returns : goal.returns
unfolding int8_numbers
returns c = rw (← c.word_to_f32-scale.ensures) (tab-done _ _ _ c.loop-d.invariant (omega arith) refl)
