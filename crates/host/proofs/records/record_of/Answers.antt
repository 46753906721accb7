-- The lengths are words 6 on, of 134.
use mathlib.Core.Path.{◌≡◌}
use Prim.Native.Nat.{◌≤◌}
use native.Mathlib.Omega.{arith}
use lib.ListN.{length, drop, length-drop}
use lib.Seq.{take_all}
use borrow.Author.Rules.{rules}
use Rattle.host.proofs.records.record_of.Goals as goal

pub returns : goal.returns
returns c =
    let n : length c.args.words.now ≡ 134 = search rules in
    let d : length (drop 6 c.args.words.now) ≤ 128 = simp length-drop (omega arith) in
    rw (c.copy_from_slice.ensures.after, take_all 128 (drop 6 c.args.words.now) d)
