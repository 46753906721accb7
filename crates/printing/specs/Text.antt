-- The lines that a call file has printed, as bytes in ASCII: the paper's Lines, under Call file.
use Rattle.std.specs.Prelude.{ℕ, zero, suc, ◌+◌, ◌/◌, ◌%◌, cond, List, [], ◌∷◌, ◌++◌, eqb, ltb, leb, length, drop}
use Rattle.printing.specs.Place.{over}

-- the decimal digits of a number below 10^k, the most significant first, with no zero in front
unfoldable pub spelled : ℕ → ℕ → List ℕ
spelled zero n = []
spelled (suc k) n = cond (ltb n 10) ((48 + n) ∷ []) (spelled k (n / 10) ++ ((48 + n % 10) ∷ []))

-- a number of up to 64 bits
abbrev pub decimal : ℕ → List ℕ
decimal n = spelled 20 n

-- `ok`, or `no` and the number of the refusal
unfoldable pub answer_text_of : ℕ → List ℕ
answer_text_of n = cond (eqb n 0) (111 ∷ 107 ∷ 10 ∷ []) ((110 ∷ 111 ∷ 32 ∷ []) ++ (decimal n ++ (10 ∷ [])))

-- a space and a number, for each of several
unfoldable pub spaced : List ℕ → List ℕ
spaced [] = []
spaced (n ∷ ns) = 32 ∷ (decimal n ++ spaced ns)

-- `seq`, `bytes` and `len` with their numbers
unfoldable pub report_text_of : ℕ → ℕ → List ℕ → List ℕ
report_text_of seq bytes lens =
    (115 ∷ 101 ∷ 113 ∷ 32 ∷ [])
    ++ (decimal seq
    ++ ((32 ∷ 98 ∷ 121 ∷ 116 ∷ 101 ∷ 115 ∷ 32 ∷ [])
    ++ (decimal bytes ++ ((32 ∷ 108 ∷ 101 ∷ 110 ∷ []) ++ (spaced lens ++ (10 ∷ []))))))

-- `bad at` and a place
unfoldable pub bad_text_of : ℕ → List ℕ
bad_text_of at = (98 ∷ 97 ∷ 100 ∷ 32 ∷ 97 ∷ 116 ∷ 32 ∷ []) ++ (decimal at ++ (10 ∷ []))

-- a text at the start of a buffer: how many bytes it has, and the buffer afterwards
pub record Laid : Type 0 where
  pub count : ℕ
  pub out : List ℕ

abbrev pub laid : List ℕ → List ℕ → Laid
laid text out = record { count = length text; out = text ++ drop (length text) out }

-- a text at an offset: the offset after it, and the buffer afterwards; where fewer than 2,048 bytes are left, which any line fits in, nothing is laid
unfoldable pub laid_at : ℕ → List ℕ → List ℕ → Laid
laid_at at text out =
    cond (leb (at + 2048) (length out)) (record { count = at + length text; out = over at text out }) (record { count = at; out = out })
