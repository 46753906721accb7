-- The scan of the largest magnitude: its start, its turn and its end, and that a word without its sign is the magnitude's.
use Rattle.std.proofs.Common.{◌≡◌, ℕ, ◌+◌, ◌%◌, ◌<◌, ◌≤◌, Bool, true, false, leb, List, length, get_or, drop, refl, add-one, drop_of_length-le, drop-cons}
use lib.Ieee.{Float, nan, inf, fin, of_bits, of_int, lt}
use Rattle.numbers.specs.Word.{float}
use Rattle.numbers.specs.Scale.{magnitude, larger, largest_from, largest}
use Rattle.numbers.proofs.Patterns.{signed, bare, with_sign, without_sign}

magnitude_signed : (s : Bool) (x : Float) → signed false x ≡ magnitude (signed s x)
unfolding magnitude
magnitude_signed s nan = refl
magnitude_signed s (inf t) = refl
magnitude_signed s (fin t m e) = refl

-- a word without its sign stands for the magnitude
pub unsigned : (w : ℕ) → float (w % 2147483648) ≡ magnitude (float w)
unsigned w = rw (with_sign w, without_sign w) (magnitude_signed (leb 2147483648 w) (bare w))

pub start : (run : List ℕ) → largest_from (float 0) run ≡ largest run
unfolding largest of_bits of_int
start run = refl

-- one more number is looked at
pub turn : (run : List ℕ) (i : ℕ) (a b : Float) → i < length run → b ≡ larger a (magnitude (float (get_or run i 0)))
    → largest_from a (drop i run) ≡ largest run → largest_from b (drop (i + 1) run) ≡ largest run
unfolding largest_from
turn run i a b h e inv = rw (e, add-one) (rw (drop-cons run i 0 h) at inv)

-- nothing is left
pub end : (run : List ℕ) (i : ℕ) (a : Float) → length run ≤ i → largest_from a (drop i run) ≡ largest run → a ≡ largest run
unfolding largest_from
end run i a h inv = rw (drop_of_length-le run h) at inv

-- the test of the scan decides as the definition does
pub larger_yes : (a x : Float) → lt a x ≡ true → x ≡ larger a x
unfolding larger
larger_yes a x h = rw h

pub larger_no : (a x : Float) → lt a x ≡ false → a ≡ larger a x
unfolding larger
larger_no a x h = rw h

-- a NaN is skipped
pub larger-nan : (a : Float) → larger a nan ≡ a
unfolding larger lt
larger-nan nan = refl
larger-nan (inf s) = refl
larger-nan (fin s m e) = refl
