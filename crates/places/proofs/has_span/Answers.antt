-- Past the first position's test the sum of positions does not wrap, and all other tests are one expression.
use Prim.Native.Nat.{◌+◌}
use native.Mathlib.Omega.{arith}
use borrow.Author.Tests.{lt-leb}
use Rattle.replies.proofs.Flags.{and_false, within_rest}
use Rattle.places.specs.Span.{has_span_of}
use Rattle.places.proofs.has_span.Goals as goal

pub returns-then-c-p : goal.returns-then-c-p
unfolding has_span_of
returns-then-c-p c = let a = c.args in rw (lt-leb (a.p + a.n) a.shape.capacity (omega arith)) (simp and_false)

pub returns : goal.returns
unfolding has_span_of
returns c = let a = c.args in rw (c.in_limits.ensures, within_rest a.p a.n a.shape.capacity (omega arith))
