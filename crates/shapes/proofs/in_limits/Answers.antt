-- The definition is the tests.
use Rattle.shapes.specs.Shape.{limits}
use Rattle.shapes.proofs.ShapeLaws.{in_range}
use Rattle.shapes.proofs.in_limits.Goals as goal

pub returns : goal.returns
unfolding limits
returns c =
    rw (
      c.is_known.ensures,
      in_range c.args.shape.layers _ c.new.ensures.start c.new.ensures.end c.new.ensures.exhausted c.contains.ensures.value,
      in_range c.args.shape.heads _ c.new-2.ensures.start c.new-2.ensures.end c.new-2.ensures.exhausted c.contains-2.ensures.value,
      in_range c.args.shape.«head_size» _ c.new-3.ensures.start c.new-3.ensures.end c.new-3.ensures.exhausted c.contains-3.ensures.value,
      in_range c.args.shape.capacity _ c.new-4.ensures.start c.new-4.ensures.end c.new-4.ensures.exhausted c.contains-4.ensures.value,
      c.whole_groups.ensures,
    )
