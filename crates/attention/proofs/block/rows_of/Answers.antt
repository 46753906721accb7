-- What is lent is as long as it is said to be.
use native.Mathlib.Nat.{add-sub_cancel_left}
use Rattle.attention.proofs.block.rows_of.Goals as goal

pub returns : goal.returns
returns g c = rw add-sub_cancel_left
