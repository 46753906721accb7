-- Where there is nothing to remove or to append, both buffers stay as they were: no rows are written.
use mathlib.Core.Path.{◌≡◌}
use mathlib.Core.List.{List, []}
use Prim.Native.Nat.{ℕ, ◌-◌, ◌≤◌}
use native.Mathlib.Nat.{zero-div}
use native.Mathlib.Omega.{arith}
use Rattle.shapes.specs.declared.Shape.{Shape}
use Rattle.shapes.specs.Shape.{width, positions}
use Rattle.shapes.specs.Buffers.{Buffers}
use Rattle.buffers.specs.Calls.{appended, removed}
use Rattle.buffers.proofs.WriteLaws.{written_none}

pub no_positions : (s : Shape) → positions s 0 ≡ 0
no_positions s = zero-div (width s)

module _ (s : Shape) (l len : ℕ) (b : Buffers) where
  -- a removal at or past the length
  pub removed_none : (t : ℕ) → len ≤ t → removed s l len t b ≡ b
  unfolding removed
  removed_none t h = let z : len - t ≡ 0 = omega arith in simp (z, written_none)

  -- an append of no keys
  pub appended_none : (values : List ℕ) → appended s l len [] values b ≡ b
  unfolding appended
  appended_none values = simp (no_positions, written_none)
