-- The paper's A whole case, under Call file: an INT8 store of one layer and head, an append, a report, and a truncation of a layer that is not there.
use Rattle.std.specs.Prelude.{ℕ, List, [], ◌∷◌, ◌++◌, replicate}

-- the file
unfoldable pub file : List ℕ
file =
    0x4b ∷ 0x56 ∷ 1 ∷ 2 ∷ 1 ∷ 0 ∷ 1 ∷ 0 ∷ 4 ∷ 0 ∷ 2 ∷ 0
    ∷ 0x4b ∷ 0x56 ∷ 2 ∷ 0 ∷ 0 ∷ 4 ∷ 0
    ∷ 0 ∷ 0 ∷ 0xfe ∷ 0x42 ∷ 0 ∷ 0 ∷ 0 ∷ 0x3f ∷ 0 ∷ 0 ∷ 0 ∷ 0xbf ∷ 0 ∷ 0 ∷ 0x20 ∷ 0xc0
    ∷ replicate 16 0
    ++ (0x4b ∷ 0x56 ∷ 5 ∷ 0x4b ∷ 0x56 ∷ 3 ∷ 1 ∷ 0 ∷ 0 ∷ 0 ∷ [])

-- ok, ok, seq 0 bytes 16 len 1, no 4
unfoldable pub lines : List ℕ
lines =
    111 ∷ 107 ∷ 10 ∷ 111 ∷ 107 ∷ 10
    ∷ 115 ∷ 101 ∷ 113 ∷ 32 ∷ 48 ∷ 32 ∷ 98 ∷ 121 ∷ 116 ∷ 101 ∷ 115 ∷ 32 ∷ 49 ∷ 54 ∷ 32 ∷ 108 ∷ 101 ∷ 110 ∷ 32 ∷ 49 ∷ 10
    ∷ 110 ∷ 111 ∷ 32 ∷ 52 ∷ 10 ∷ []
