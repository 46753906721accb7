-- A line from a place on: by the byte there, and past the end.
-- Each holds by the definition, at the first byte.
use mathlib.Core.Path.{◌≡◌, refl}
use mathlib.Core.Logic.{◌≢◌}
use native.Mathlib.Numerals.{add-one}
use borrow.Author.Tests.{ne_eqb}
use mathlib.Core.Bool.{Bool, true, false, cond}
use mathlib.Core.List.{List, [], ◌∷◌}
use Prim.Native.Nat.{ℕ, suc, ◌+◌, ◌≤◌, ◌<◌}
use native.Mathlib.Omega.{arith}
use lib.Dec.{eqb}
use lib.ListN.{length, drop, length-drop, drop_of_length-le}
use Rattle.test_lines.specs.Line.{line_length_of}

at_first : (t : Bool) {m n : ℕ} → m ≤ n → cond t 0 (suc m) ≤ suc n
at_first true h = omega arith
at_first false h = omega arith

-- where the first byte is a line feed, and where it is none
pub line_hit : (b : ℕ) (text : List ℕ) → b ≡ 10 → line_length_of (b ∷ text) ≡ 0
unfolding line_length_of
line_hit b text e = rw e refl

pub line_miss : (b : ℕ) (text : List ℕ) → b ≢ 10 → line_length_of (b ∷ text) ≡ line_length_of text + 1
unfolding line_length_of
line_miss b text e = rw (ne_eqb b 10 e, add-one) refl

pub line-within : (text : List ℕ) → line_length_of text ≤ length text
unfolding line_length_of
line-within [] = omega arith
line-within (b ∷ text) = at_first (eqb b 10) (line-within text)

pub line_past : (text : List ℕ) (i : ℕ) → length text ≤ i → line_length_of (drop i text) ≡ 0
unfolding line_length_of
line_past text i h = rw drop_of_length-le

-- a line of n bytes from a place of the text ends in the text
pub line_in : (text : List ℕ) (at : ℕ) {n : ℕ} → at < length text → n ≡ line_length_of (drop at text) → at + n ≤ length text
line_in text at h e = omega (arith, line-within (drop at text), length-drop at text)

-- a line of n bytes at the front of a text lies in the text
pub line_first : (text : List ℕ) {n : ℕ} → n ≡ line_length_of text → n ≤ length text
line_first text e = omega (arith, line-within text)
