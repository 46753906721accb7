-- A group and the words of a run as a row has them, and what a write leaves of a row that fits.
-- Each holds since what is lent is exactly as long as what is written.
use mathlib.Core.Path.{◌≡◌, ap}
use mathlib.Core.Bool.{Bool}
use mathlib.Core.List.{List, [], append-nil}
use Prim.Native.Nat.{ℕ, ◌≤◌}
use native.Mathlib.Omega.{arith}
use lib.Ieee.{Float}
use lib.ListN.{length, drop_of_length-le}
use Rattle.groups.specs.Group.{packed, holds, pack_into}
use Rattle.rows.specs.Row.{row_cells, row_scales}
use Rattle.shapes.specs.Buffers.{Buffers, buffers}
use Rattle.replies.specs.Tried.{tells}
use Rattle.replies.proofs.Tried.{tried_left}
use Rattle.rows.proofs.FitLaws.{RowFits, facts_fit}
use Rattle.encode.specs.Encode.{put_row_of}

-- a group of exactly 32 numbers and 16 bytes
pub pack_all : (numbers bytes : List ℕ) (scale : Float) → length numbers ≡ 32 → length bytes ≡ 16 → pack_into numbers scale bytes ≡ packed numbers scale
unfolding pack_into holds
pack_all numbers bytes scale n b = let h : length bytes ≤ 16 = omega arith in rw (n, b, drop_of_length-le bytes h) (append-nil _)

pub none_there : (l : List ℕ) → length l ≡ 0 → l ≡ []
none_there l e = drop_of_length-le l {i = 0} (omega arith)

-- what the call leaves of a row that fits
pub put_left : {format : ℕ} {done : Bool} (run cells scales : List ℕ) {x y : List ℕ} → RowFits format (length run) (length cells) (length scales)
    → tells done (buffers x y) ≡ put_row_of format run (buffers cells scales)
    → (x ≡ row_cells format run) × (y ≡ row_scales format run)
unfolding put_row_of
put_left run cells scales h e =
    let q = tried_left _ _ (facts_fit h) e in (ap (λ (b : Buffers). b.cells) q, ap (λ (b : Buffers). b.scales) q)
