-- The limits bound every product.
use mathlib.Core.Path.{refl}
use native.Mathlib.Omega.{arith}
use Rattle.shapes.specs.Shape.{total}
use Rattle.shapes.proofs.ShapeLaws.{limits_facts, total_small}
use Rattle.shapes.proofs.elements.Goals as goal

pub overflow_mul-result-2 : goal.overflow_mul-result-2
overflow_mul-result-2 c = record { fits = omega (arith, total_small _ _ (limits_facts _ c.requires.0) c.requires.1) }

pub overflow_mul-result-3 : goal.overflow_mul-result-3
overflow_mul-result-3 c = record { fits = omega (arith, total_small _ _ (limits_facts _ c.requires.0) c.requires.1) }

pub overflow_mul-result-4 : goal.overflow_mul-result-4
overflow_mul-result-4 c = record { fits = omega (arith, total_small _ _ (limits_facts _ c.requires.0) c.requires.1) }

pub returns : goal.returns
unfolding total
returns c = refl
