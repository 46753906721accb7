-- The offsets are those of head h, whose positions lie in both buffers.
use native.Mathlib.Omega.{arith}
use Rattle.buffers.proofs.LoopLaws.{cells_small, words_small, head_ends}
use Rattle.buffers.proofs.Run.head.Goals as goal

pub overflow_mul-a : goal.overflow_mul-a
overflow_mul-a c = omega (arith, cells_small c.args.self.inside c.requires.c)

pub overflow_mul-b : goal.overflow_mul-b
overflow_mul-b c = omega (arith, words_small c.args.self.inside c.requires.w)

pub returns-clause-value : goal.returns-clause-value
returns-clause-value c = let r = c.requires in head_ends c.args.self.inside r.side_in r.there r.first r.c r.w
