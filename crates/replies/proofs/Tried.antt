-- A function inside the library on what fits: what it tells, and what it left.
-- Each holds since the test that it makes ended well.
use mathlib.Core.Path.{◌≡◌, ap, ◌∙◌}
use mathlib.Core.Bool.{Bool, true}
use Rattle.replies.specs.Tried.{Tried, tells, tried}

module _ {A : Type 0} {fits : Bool} (new old : A) (e : fits ≡ true) where
  pub tried-done : {x : A} → x ≡ new → tells true x ≡ tried fits new old
  tried-done q = rw (e, q)

  pub tried_left : {done : Bool} {x : A} → tells done x ≡ tried fits new old → x ≡ new
  tried_left q = ap (λ (o : Tried A). o.result) q ∙ rw e
