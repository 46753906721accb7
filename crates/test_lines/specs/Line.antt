-- Lines of words in hex, which the programs read: a word is 8 upper-case digits, and a line ends at a line feed.
use Rattle.std.specs.Prelude.{ℕ, suc, ◌+◌, ◌-◌, ◌*◌, ◌^◌, Bool, cond, ◌&&◌, List, [], ◌∷◌, eqb, ltb, leb, length, get_or}
use Rattle.lists.specs.Chunks.{turns}

-- the value of a digit, 0 to 9 and A to F; 16 for any other byte
abbrev pub between : ℕ → ℕ → ℕ → Bool
between low high b = leb low b && leb b high

unfoldable pub digit_of : ℕ → ℕ
digit_of b = cond (between 48 57 b) (b - 48) (cond (between 65 70 b) (b - 55) 16)

-- a digit more; 2^32 once a byte was none
abbrev pub with_digit_of : ℕ → ℕ → ℕ
with_digit_of w d = cond (ltb w (2 ^ 32) && ltb d 16) (w * 16 + d) (2 ^ 32)

-- the word whose 8 digits begin at a place, or 2^32 where they are not all there
unfoldable pub hex_at_of : List ℕ → ℕ → ℕ
hex_at_of text at =
    cond (leb (at + 8) (length text)) (turns 8 (λ i w. with_digit_of w (digit_of (get_or text (at + i) 0))) 0) (2 ^ 32)

-- the bytes before the first line feed, or all
unfoldable pub line_length_of : List ℕ → ℕ
line_length_of [] = 0
line_length_of (b ∷ text) = cond (eqb b 10) 0 (suc (line_length_of text))
