-- Scores and weighted sums of rows: the paper's section Order of float operations.
-- Each addition and each multiplication is one of IEEE 754 binary32, rounded once.
use Rattle.std.specs.Prelude.{ℕ, ◌+◌, ◌-◌, ◌*◌, ◌/◌, ◌%◌, Bool, true, false, cond, List, [], ◌∷◌, ltb, length, get_or, Float}
use Rattle.std.specs.Float.{nan, binary32}
use Rattle.std.specs.Float.Ieee.{add, mul}
use Rattle.lists.specs.Chunks.{tab, turns, part}
use Rattle.numbers.specs.Word.{float, word}
use Rattle.numbers.specs.Code.{less8}
use Rattle.groups.specs.Group.{code_at}
use Rattle.rows.specs.Row.{f32_at}

-- n terms added from 0.0, term 0 first
unfoldable pub summed : ℕ → (ℕ → Float) → Float
summed n term = turns n (λ i sum. add binary32 sum (term i)) (float 0)

-- F32: the query's number d times the row's, d rising
unfoldable pub f32_dot : List Float → List ℕ → Float
f32_dot query cells = summed (length query) (λ d. mul binary32 (get_or query d nan) (float (f32_at cells d)))

-- INT4: the code of a byte less 8, the low one at bit 0, the high one at bit 4
abbrev pub code_from : ℕ → List ℕ → ℕ → Float
code_from k bytes i = less8 (code_at k bytes i)

-- one byte of a group: the query's number i times the low code is added, then its number i + 16 times the high one
abbrev pub add_byte : List Float → List ℕ → ℕ → Float → Float
add_byte query bytes i sum =
    add binary32
    (add binary32 sum (mul binary32 (get_or query i nan) (code_from 0 bytes i)))
    (mul binary32 (get_or query (i + 16) nan) (code_from 4 bytes i))

-- a group: bytes 0 to 15, from 0.0
unfoldable pub group_dot : List Float → List ℕ → Float
group_dot query bytes = turns 16 (add_byte query bytes) (float 0)

-- group sum times group scale, added to the total
unfoldable pub int4_dot : List Float → List ℕ → List ℕ → Float
int4_dot query cells scales =
    summed (length query / 32)
    (λ g. mul binary32 (group_dot (part (g * 32) 32 query) (part (g * 16) 16 cells)) (float (get_or scales g 0)))

-- F32: the weight times the row's number i
abbrev pub f32_term : Float → List ℕ → ℕ → Float
f32_term weight cells i = mul binary32 weight (float (f32_at cells i))

-- INT4: the weight times the group scale first, then times the code less 8; number i is number i % 32 of group i / 32
abbrev pub group_code : List ℕ → ℕ → Float
group_code bytes i = cond (ltb i 16) (code_from 0 bytes i) (code_from 4 bytes (i - 16))

abbrev pub int4_term : Float → List ℕ → List ℕ → ℕ → Float
int4_term weight cells scales i =
    mul binary32 (mul binary32 weight (float (get_or scales (i / 32) 0))) (group_code (part (i / 32 * 16) 16 cells) (i % 32))

-- whether a format has scores and sums; a row's dot with a query, and what it adds to place i under a weight
pub record Scoring : Type 0 where
  pub scored : Bool
  pub dot : List Float → List ℕ → List ℕ → Float
  pub term : Float → List ℕ → List ℕ → ℕ → Float

abbrev pub f32_scoring : Scoring
f32_scoring = record { scored = true; dot = λ query cells scales. f32_dot query cells; term = λ weight cells scales. f32_term weight cells }

abbrev pub int4_scoring : Scoring
int4_scoring = record { scored = true; dot = int4_dot; term = int4_term }

-- of a format that has none, each is 0.0
abbrev pub no_scoring : Scoring
no_scoring = record { scored = false; dot = λ query cells scales. float 0; term = λ weight cells scales i. float 0 }

-- the table: a format's number is its place; BF16 and INT8 have none
unfoldable pub scorings : List Scoring
scorings = f32_scoring ∷ no_scoring ∷ no_scoring ∷ int4_scoring ∷ []

abbrev pub scoring_of : ℕ → Scoring
scoring_of format = get_or scorings format no_scoring

unfoldable pub has_scores_of : ℕ → Bool
has_scores_of format = (scoring_of format).scored

unfoldable pub row_dot : ℕ → List Float → List ℕ → List ℕ → Float
row_dot format = (scoring_of format).dot

unfoldable pub row_term : ℕ → Float → List ℕ → List ℕ → ℕ → Float
row_term format = (scoring_of format).term

-- m scores, as words: the dot of each position times the given scale
unfoldable pub scores_of : ℕ → (ℕ → Float) → Float → List ℕ
scores_of m dot x = tab m (λ p. word (mul binary32 (dot p) x))

-- d sums, as words: each from 0.0, its terms added by rising position
unfoldable pub sums_of : ℕ → ℕ → (ℕ → ℕ → Float) → List ℕ
sums_of d m term = tab d (λ i. word (summed m (λ p. term p i)))

-- one position's terms added to what is there
unfoldable pub added : (ℕ → Float) → List Float → List Float
added term sums = tab (length sums) (λ i. add binary32 (get_or sums i nan) (term i))
