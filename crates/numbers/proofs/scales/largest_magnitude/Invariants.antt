-- `scales::largest_magnitude` meets its contract: what is left of the run, started at what was found, has the run's own largest magnitude.
use Rattle.std.proofs.Common.{◌≡◌, drop}
use Rattle.numbers.specs.Scale.{largest_from, largest}
use Rattle.numbers.proofs.scales.largest_magnitude.Given as goal

abbrev pub invariant-loop-w : goal.invariant-loop-w
invariant-loop-w l = largest_from l.most (drop l.w-index l.run) ≡ largest l.run
