-- The group is packed under the scale that is answered.
use mathlib.Core.Path.{◌∙◌}
use Rattle.encode.proofs.EncodeLaws.{pack_all}
use Rattle.encode.proofs.put_group.Goals as goal

pub returns-clause-cells : goal.returns-clause-cells
returns-clause-cells c = c.pack_i4_group.ensures.bytes ∙ rw c.compute_int4_scale-scale.ensures (pack_all _ c.args.cells.now _ c.requires.0 c.requires.1)
