-- `scales::scale_by` meets its contract: its test is the definition's, at the largest magnitude.
use Rattle.numbers.proofs.ScaleLaws.{scale_one, scale_divided}
use Rattle.numbers.proofs.scales.scale_by.Goals as goal

pub returns-then-most : goal.returns-then-most
returns-then-most c = scale_one _ _ _ c.largest_magnitude-most.ensures c.if-most.true

pub returns-else-most : goal.returns-else-most
returns-else-most c = scale_divided _ _ _ c.largest_magnitude-most.ensures c.if-most.false
