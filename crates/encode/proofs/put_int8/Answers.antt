-- The cells passed hold the codes of the numbers passed, under the one scale, and what is left is as it was.
use mathlib.Core.Path.{◌≡◌, refl}
use native.Mathlib.Omega.{arith}
use lib.ListN.{length, drop_of_length-le}
use lib.Seq.{set_split}
use Rattle.lists.specs.Chunks.{tab}
use Rattle.lists.proofs.Tab.{tab-set, tab-done}
use Rattle.rows.specs.Row.{int8_cells, int8_scales}
use Rattle.encode.proofs.put_int8.Goals as goal

pub loop-d-init : goal.loop-d-init
unfolding tab
loop-d-init c = refl

pub loop-d-preserved : goal.loop-d-preserved
loop-d-preserved c = tab-set _ _ _ (omega arith) c.loop-d.invariant c.quantize_i8.ensures

pub returns : goal.returns
unfolding int8_cells int8_scales
returns c =
    let one : length c.args.scales.now ≡ 1 = c.requires.1 in record {
      cells = rw (← c.compute_int8_scale-scale.ensures) (tab-done _ _ _ c.loop-d.invariant (omega arith) c.requires.0);
      scales = rw (set_split c.args.scales.now 0 _ (omega arith), drop_of_length-le c.args.scales.now {i = 1} (omega arith), c.f32_to_word.ensures, c.compute_int8_scale-scale.ensures);
    }
