-- Bytes and a group as a row has them, and what a read leaves of a row that fits.
-- Each holds since what is lent is exactly as long as what is read.
use mathlib.Core.Path.{◌≡◌, ◌∙◌}
use mathlib.Core.Bool.{Bool, cond}
use mathlib.Core.List.{List, [], append-nil}
use Prim.Native.Nat.{ℕ, zero, suc, ◌+◌, ◌-◌, ◌*◌, ◌/◌, ◌≤◌, ◌<◌}
use native.Mathlib.Nat.{not-suc-le-zero, le_of_suc-le-suc, zero-mul, div-mul-le_self}
use native.Mathlib.Omega.{arith}
use lib.Dec.{eqb}
use lib.Ieee.{Float}
use lib.ListN.{length, get_or, drop, drop_of_length-le}
use Rattle.std.specs.Int.{byte_worth, sum_through}
use Rattle.std.specs.Simd.{first_chunks}
use borrow.Author.Tests.{eq-eqb}
use Rattle.lists.specs.Bytes.{from_little}
use Rattle.lists.specs.Chunks.{part}
use Rattle.lists.proofs.Bytes.{from_le_bytes_little}
use Rattle.lists.proofs.Part.{part_length, part_next, room}
use Rattle.groups.specs.Group.{unpacked, holds, unpack_into}
use Rattle.rows.specs.Row.{row_numbers}
use Rattle.shapes.specs.Buffers.{buffers}
use Rattle.replies.specs.Tried.{tells}
use Rattle.replies.proofs.Tried.{tried_left}
use Rattle.rows.proofs.FitLaws.{RowFits, facts_fit}
use Rattle.decode.specs.Decode.{get_row_of}

-- a group of exactly 32 numbers and 16 bytes
pub unpack_all : (numbers bytes : List ℕ) (scale : Float) → length numbers ≡ 32 → length bytes ≡ 16 → unpack_into bytes scale numbers ≡ unpacked bytes scale
unfolding unpack_into holds
unpack_all numbers bytes scale n b = let h : length numbers ≤ 32 = omega arith in rw (n, b, drop_of_length-le numbers h) (append-nil _)

-- chunk i of a list cut into chunks, and the number that its bytes make
chunk_at : (n k i : ℕ) (l : List ℕ) → i < k → get_or (first_chunks n k l) i [] ≡ part (i * n) n l
chunk_at n zero i l h = absurd (not-suc-le-zero h)
chunk_at n (suc k) zero l h = rw zero-mul
chunk_at n (suc k) (suc i) l h = rw (part_next n i l) (chunk_at n k i (drop n l) (le_of_suc-le-suc h))

pub number_at : (k i : ℕ) (l : List ℕ) {chunks : List (List ℕ)} → chunks ≡ first_chunks (suc k) (length l / suc k) l → i < length l / suc k
    → sum_through (λ j. byte_worth j (get_or (get_or chunks i []) j 0)) k ≡ from_little (part (i * suc k) (suc k) l)
number_at k i l e h =
    let fit : i * suc k + suc k ≤ length l = omega (arith, room (suc k) h, div-mul-le_self (length l) (suc k)) in
    rw (e, chunk_at (suc k) (length l / suc k) i l h) (from_le_bytes_little _ k (part_length _ _ _ fit))

-- the word of four bytes lent as `&l[a..a + 4]`
pub word_lent : (l : List ℕ) (a : ℕ) {r : ℕ} → r ≡ cond (eqb (length (part a (a + 4 - a) l)) 4) (from_little (part a (a + 4 - a) l)) 0
    → a + 4 ≤ length l → r ≡ from_little (part a 4 l)
word_lent l a o h = let d : a + 4 - a ≡ 4 = omega arith in o ∙ rw (d, eq-eqb _ 4 (part_length a 4 l h))

-- what the call leaves of a row that fits
pub get_left : {format : ℕ} {done : Bool} (cells scales out : List ℕ) {x : List ℕ} → RowFits format (length out) (length cells) (length scales)
    → tells done x ≡ get_row_of format (buffers cells scales) out
    → x ≡ row_numbers format (length out) cells scales
unfolding get_row_of
get_left cells scales out h e = tried_left _ _ (facts_fit h) e
