-- What stands in a word of four bytes of a group: each byte's codes, and what they add to a sum.
-- Each holds since a division drops the bytes below a code, and the remainder those above it.
use mathlib.Core.Path.{◌≡◌, sym, ◌∙◌}
use mathlib.Core.List.{List}
use Prim.Native.Nat.{ℕ, ◌+◌, ◌-◌, ◌*◌, ◌/◌, ◌%◌, ◌^◌, ◌≤◌, ◌<◌}
use native.Mathlib.Nat.{add-zero}
use native.Mathlib.Omega.{arith}
use lib.ListN.{get_or, drop}
use lib.Seq.{get_or-take, get_or-drop}
use lib.Pow.{shr-shr, field, mod-mod-pow}
use lib.Ieee.{Float, nan, binary32, add, mul}
use Rattle.lists.specs.Bytes.{from_little}
use Rattle.lists.specs.Chunks.{turns, part}
use Rattle.lists.proofs.Bytes.{from_byte, from_drop}
use Rattle.lists.proofs.Turns.{turns_next}
use Rattle.numbers.specs.Code.{less8}
use Rattle.groups.specs.Group.{code_at}
use Rattle.attention.specs.Order.{add_byte}

-- a code of a number's lowest byte
low_code : (n j : ℕ) → j ≤ 4 → n % 256 / 2 ^ j % 16 ≡ n / 2 ^ j % 16
low_code n j h =
    let e : 4 - j + (4 + j) ≡ 8 = omega arith in
    let m : n % 256 % 2 ^ (4 + j) ≡ n % 2 ^ (4 + j) = rw e at (mod-mod-pow n (4 - j) (4 + j)) in
    sym (field (n % 256) 4 j) ∙ rw m (field n 4 j)

module _ (bytes : List ℕ) (i : ℕ) (below : (n : ℕ) → get_or bytes n 0 < 256) where
  -- the code at bit j of byte k of the word
  word_code : (k j : ℕ) → k < 4 → j ≤ 4 → from_little (part i 4 bytes) / 2 ^ (8 * k + j) % 16 ≡ code_at j bytes (i + k)
  word_code k j b h =
      let at : (n : ℕ) → n < 4 → get_or (part i 4 bytes) n 0 ≡ get_or bytes (i + n) 0 = λ n w. rw (get_or-take, get_or-drop) in
      let rest = from_little (drop k (part i 4 bytes)) in
      let byte : rest % 256 ≡ get_or bytes (i + k) 0 = omega (arith, from_byte (part i 4 bytes) k, at k b, below (i + k)) in
      let dropped = from_drop (part i 4 bytes) k (λ n w. rw (at n (omega arith)) (below (i + n))) in
      rw (← shr-shr, dropped, ← low_code rest j h, byte)

  -- byte k's turn, its two codes taken from the word
  pub word_turn : (query : List Float) (x : Float) {word : ℕ} → word ≡ from_little (part i 4 bytes)
      → (k : ℕ) {p q : ℕ} {sum next : Float} → k < 4 → sum ≡ turns k (λ n. add_byte query bytes (i + n)) x
      → next
      ≡ add binary32
      (add binary32 sum (mul binary32 (get_or query p nan) (less8 (word / 2 ^ (8 * k) % 16))))
      (mul binary32 (get_or query q nan) (less8 (word / 2 ^ (8 * k + 4) % 16)))
      → p ≡ i + k → q ≡ i + k + 16 → next ≡ turns (k + 1) (λ n. add_byte query bytes (i + n)) x
  word_turn query x w k b o e low high =
      let first = rw add-zero at (word_code k 0 b (omega arith)) in
      turns_next k _ x o (e ∙ rw (w, low, high, first, word_code k 4 b (omega arith)))
