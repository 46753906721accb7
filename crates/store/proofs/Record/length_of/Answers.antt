-- The array has 128 places, and past them there is 0.
use mathlib.Core.Path.{◌≡◌, sym}
use native.Mathlib.Omega.{arith}
use lib.ListN.{length, get_or-eq_default}
use borrow.Author.Rules.{rules}
use Rattle.store.proofs.Record.length_of.Goals as goal

pub returns-else-layer-lt128 : goal.returns-else-layer-lt128
returns-else-layer-lt128 c =
    let n : length c.args.self.now.lens ≡ 128 = search rules in
    sym (get_or-eq_default c.args.self.now.lens 0 (omega arith))
