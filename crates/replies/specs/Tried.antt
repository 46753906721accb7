-- What a function inside the library tells of its arguments: whether they fit and it did its work, which is no reply of the paper.
use Rattle.std.specs.Prelude.{Bool, cond}

-- whether a call was done, and what it leaves of what it may change
pub record Tried (A : Type 0) : Type 0 where
  pub done : Bool
  pub result : A

abbrev pub tells : {A : Type 0} → Bool → A → Tried A
tells done result = record { done = done; result = result }

-- done where what is lent fits, a call leaves what is new; else what was there
abbrev pub tried : {A : Type 0} → Bool → A → A → Tried A
tried fits new old = tells fits (cond fits new old)
