-- The two sides of a layer, by their numbers.
use Rattle.std.specs.Prelude.{ℕ}
use Rattle.buffers.specs.declared.Side.{Side}
use Rattle.buffers.specs.declared.Side.TheVariants.{Keys, Values}

abbrev pub side_number : Side → ℕ
side_number Keys = 0
side_number Values = 1
