-- A word is a NaN's where it lies past infinity's, its sign dropped.
use mathlib.Core.Path.{◌≡◌, ◌∙◌}
use Prim.Native.Nat.{◌%◌}
use lib.Dec.{ltb}
use lib.Ieee.{binary32, nan_bits}
use lib.Ieee.Bits.{nan_bits_above}
use Rattle.sums.proofs.NanLaws.{bit}
use Rattle.sums.proofs.stored.nan_at.Goals as goal

pub returns : goal.returns
returns c =
    let w = c.word_at.result in
    let e : nan_bits binary32 w ≡ ltb 2139095040 (w % 2147483648) = nan_bits_above binary32 w in
    rw (← c.word_at.ensures, e) (c.from.ensures ∙ bit _)
