-- Which words are zeros, infinities, NaNs and numbers above or below 0, by their patterns, and runs of such words: IEEE 754 binary32.
use Rattle.std.specs.Prelude.{◌≡◌, ℕ, ◌%◌, ◌<◌, ◌≤◌, ◌⊎◌, List, [], ◌∷◌}

-- a zero, an infinity: of either sign; a NaN: of any sign and payload; a zero or a NaN
abbrev pub ZeroWord : ℕ → Type 0
ZeroWord w = w % 0x8000_0000 ≡ 0

abbrev pub InfWord : ℕ → Type 0
InfWord w = w % 0x8000_0000 ≡ 0x7f80_0000

abbrev pub NanWord : ℕ → Type 0
NanWord w = 0x7f80_0000 < w % 0x8000_0000

abbrev pub BlankWord : ℕ → Type 0
BlankWord w = ZeroWord w ⊎ NanWord w

-- a number above 0, and one below 0: finite or infinite
abbrev pub AboveZero : ℕ → Type 0
AboveZero w = (0 < w) × (w ≤ 0x7f80_0000)

abbrev pub BelowZero : ℕ → Type 0
BelowZero w = (0x8000_0000 < w) × (w ≤ 0xff80_0000)

-- each word of a run is such; one of them is
abbrev pub All : (ℕ → Type 0) → List ℕ → Type 0
All P [] = Unit {0}
All P (w ∷ run) = P w × All P run

abbrev pub Any : (ℕ → Type 0) → List ℕ → Type 0
Any P [] = ⊥
Any P (w ∷ run) = P w ⊎ Any P run
