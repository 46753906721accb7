-- The magnitude is clamped to 128 at most, so that the sum with 2^23 rounds it, and where a half is left one more is the nearest.
use Rattle.std.proofs.Common.{◌≡◌, ℕ, ◌≤◌, cond, pos, arith}
use lib.Ieee.{Float, lt}
use Rattle.numbers.specs.Word.{float, whole}
use Rattle.numbers.proofs.Halves.{Nearest, clamped_before, raised_no_nan, one_more, no_more}
use Rattle.numbers.proofs.Patterns.{up_to_infinity}
use Rattle.numbers.proofs.Signs.{counts}
use Rattle.numbers.proofs.codes.nearest_whole.Goals as goal

-- what is clamped before the rounding is clamped after it
rounds : (bits most : ℕ) (x : Float) → bits ≤ 2139095040 → most ≤ 128 → x ≡ cond (lt (float bits) (whole (pos most))) (float bits) (whole (pos most))
    → Nearest x (counts most (float bits))
rounds bits most x l h e = rw e (clamped_before bits most l h)

pub float_from_bits-bits : goal.float_from_bits-bits
float_from_bits-bits c = up_to_infinity _ (omega arith)

pub float_to_bits-n : goal.float_to_bits-n
float_to_bits-n c = raised_no_nan (rounds _ _ _ c.requires.0 c.requires.1 c.smaller-x.ensures)

pub returns-then-x-n : goal.returns-then-x-n
returns-then-x-n c = one_more (rounds _ _ _ c.requires.0 c.requires.1 c.smaller-x.ensures) c.if-x-n.true

pub returns-else-x-n : goal.returns-else-x-n
returns-else-x-n c = no_more (rounds _ _ _ c.requires.0 c.requires.1 c.smaller-x.ensures) c.if-x-n.false
