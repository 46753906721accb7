-- The bytes of a number, and the number of bytes.
-- Each holds by the table of bytes, or byte by byte.
use mathlib.Core.Path.{◌≡◌, refl, ap, ◌∙◌}
use mathlib.Core.List.{List, [], ◌∷◌}
use Prim.Native.Nat.{ℕ, zero, suc, ◌+◌, ◌*◌, ◌/◌, ◌%◌, ◌^◌, ◌≤◌, ◌<◌}
use native.Mathlib.Nat.{mul-suc, pow-zero, pow-suc, div-one, zero-add, suc-add, add-suc, add-zero}
use native.Mathlib.Omega.{arith}
use lib.Pow.{shr-shr}
use lib.ListN.{length, get_or, drop, drop_of_length-le}
use Rattle.std.specs.Int.{Width, byte_len, byte_at, byte_worth, bytes_low_first, sum_through, to_le_bytes}
use Rattle.lists.specs.Chunks.{tab}
use Rattle.lists.specs.Bytes.{little, from_little}
use Rattle.lists.proofs.Tab.{tab-length, tab_same}

pub little-length : (k w : ℕ) → length (little k w) ≡ k
unfolding little
little-length k w = tab-length k _

-- the number that bytes make from place i on, by its lowest byte; none past the end
pub from_byte : (l : List ℕ) (i : ℕ) → from_little (drop i l) ≡ get_or l i 0 + 256 * from_little (drop (suc i) l)
unfolding from_little
from_byte [] zero = refl
from_byte [] (suc i) = refl
from_byte (x ∷ l) zero = refl
from_byte (x ∷ l) (suc i) = from_byte l i

pub from_end : (l : List ℕ) (k : ℕ) → length l ≡ k → from_little (drop k l) ≡ 0
unfolding from_little
from_end l k e = let h : length l ≤ k = omega arith in rw (drop_of_length-le l h)

-- without its k lowest bytes a number is that of the bytes after them
pub from_drop : (l : List ℕ) (k : ℕ) → ((i : ℕ) → i < k → get_or l i 0 < 256) → from_little l / 2 ^ (8 * k) ≡ from_little (drop k l)
from_drop l zero below = rw (pow-zero, div-one)
from_drop l (suc k) below =
    rw (mul-suc, ← shr-shr, from_drop l k (λ i b. below i (omega arith)))
    (omega (arith, from_byte l k, below k (omega arith)))

-- the same two in std's words, at every width
byte_at_is : (i n : ℕ) → byte_at i n ≡ n / 256 ^ i % 256
byte_at_is zero n = rw (pow-zero, div-one)
byte_at_is (suc i) n = refl

low_first : (k i n : ℕ) → bytes_low_first i k n ≡ tab k (λ j. n / 256 ^ (i + j) % 256)
unfolding tab
low_first zero i n = refl
low_first (suc k) i n =
    let rest = tab_same k (λ j. n / 256 ^ (suc i + j) % 256) (λ j. n / 256 ^ (i + suc j) % 256) (λ j h. rw (suc-add, add-suc)) in
    rw (byte_at_is i n, low_first k (suc i) n, rest, add-zero)

pub le_bytes_little : (w : Width) (n : ℕ) → to_le_bytes w n ≡ little (byte_len w) n
unfolding little
le_bytes_little w n = low_first (byte_len w) 0 n ∙ tab_same (byte_len w) (λ j. n / 256 ^ (0 + j) % 256) (λ j. n / 256 ^ j % 256) (λ j h. rw zero-add)

through : (l : List ℕ) (k : ℕ) → sum_through (λ i. byte_worth i (get_or l i 0)) k + 256 ^ suc k * from_little (drop (suc k) l) ≡ from_little l
through l zero = omega (arith, from_byte l 0)
through l (suc k) =
    let e = ap (λ (n : ℕ). 256 ^ suc k * n) (from_byte l (suc k)) in
    rw (pow-suc 256 (suc k)) (omega (arith, through l k, e))

pub from_le_bytes_little : (l : List ℕ) (k : ℕ) → length l ≡ suc k → sum_through (λ i. byte_worth i (get_or l i 0)) k ≡ from_little l
from_le_bytes_little l k e = let z = ap (λ (n : ℕ). 256 ^ suc k * n) (from_end l (suc k) e) in omega (arith, through l k, z)
