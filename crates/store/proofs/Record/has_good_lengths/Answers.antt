-- Each length is tested, or one that is not good ends the test.
use mathlib.Core.Path.{◌≡◌}
use mathlib.Core.Bool.{true, false}
use Prim.Native.Nat.{ℕ, ◌≤◌, ◌<◌}
use lib.ListN.{get_or}
use borrow.Author.Rules.{rules}
use Rattle.store.specs.Record.{most_of}
use Rattle.store.proofs.LengthLaws.{good_told}
use Rattle.store.proofs.Record.has_good_lengths.Goals as goal

pub returns : goal.returns
returns c =
    let r = c.args.self.now in
    let x : c.all.result ≡ true → (l : ℕ) → l < 128 → get_or r.lens l 0 ≤ most_of r.shape l = λ e l w. search rules in
    let y : c.all.result ≡ false → (l : ℕ) × (l < 128) × (most_of r.shape l < get_or r.lens l 0) = λ e. search rules in
    good_told r _ x y
