-- One head's numbers at one position, in each format: cells, scale words, and what they read as.
-- The paper's sections Shape and room, for the bytes, and Codes.
use Rattle.std.specs.Prelude.{ℕ, ◌*◌, ◌/◌, List, [], ◌∷◌, length, get_or, replicate, Float}
use Rattle.lists.specs.Bytes.{little, from_little}
use Rattle.lists.specs.Chunks.{tab, joined, part}
use Rattle.numbers.specs.Word.{float, word, bf16, from_bf16}
use Rattle.numbers.specs.Scale.{scale_of}
use Rattle.numbers.specs.Code.{code8, read8}
use Rattle.groups.specs.Group.{packed, unpacked}

-- F32: the bits of each number
unfoldable pub f32_cells : List ℕ → List ℕ
f32_cells run = joined (length run) (λ d. little 4 (get_or run d 0))

-- number d of an F32 row, as a word
abbrev pub f32_at : List ℕ → ℕ → ℕ
f32_at cells d = from_little (part (d * 4) 4 cells)

unfoldable pub f32_numbers : ℕ → List ℕ → List ℕ
f32_numbers n cells = tab n (f32_at cells)

-- BF16: the rounded upper half of the bits
unfoldable pub bf16_cells : List ℕ → List ℕ
bf16_cells run = joined (length run) (λ d. little 2 (bf16 (get_or run d 0)))

unfoldable pub bf16_numbers : ℕ → List ℕ → List ℕ
bf16_numbers n cells = tab n (λ d. from_bf16 (from_little (part (d * 2) 2 cells)))

-- INT8: codes under the one scale of the head
unfoldable pub int8_cells : List ℕ → List ℕ
int8_cells run = tab (length run) (λ d. code8 (get_or run d 0) (scale_of 127 run))

unfoldable pub int8_scales : List ℕ → List ℕ
int8_scales run = word (scale_of 127 run) ∷ []

unfoldable pub int8_numbers : ℕ → List ℕ → List ℕ → List ℕ
int8_numbers n cells scales = tab n (λ d. word (read8 (get_or cells d 0) (float (get_or scales 0 0))))

-- INT4: groups of 32, each under its own scale
abbrev pub group : ℕ → List ℕ → List ℕ
group g run = part (g * 32) 32 run

abbrev pub group_scale_of : ℕ → List ℕ → Float
group_scale_of g run = scale_of 7 (group g run)

unfoldable pub int4_cells : List ℕ → List ℕ
int4_cells run = joined (length run / 32) (λ g. packed (group g run) (group_scale_of g run))

unfoldable pub int4_scales : List ℕ → List ℕ
int4_scales run = tab (length run / 32) (λ g. word (group_scale_of g run))

unfoldable pub int4_numbers : ℕ → List ℕ → List ℕ → List ℕ
int4_numbers n cells scales = joined (n / 32) (λ g. unpacked (part (g * 16) 16 cells) (float (get_or scales g 0)))

-- how a format writes a run, as cells and as scale words, and reads n numbers from them
pub record Coding : Type 0 where
  pub cells : List ℕ → List ℕ
  pub scales : List ℕ → List ℕ
  pub numbers : ℕ → List ℕ → List ℕ → List ℕ

abbrev pub f32_coding : Coding
f32_coding = record { cells = f32_cells; scales = λ run. []; numbers = λ n cells scales. f32_numbers n cells }

abbrev pub bf16_coding : Coding
bf16_coding = record { cells = bf16_cells; scales = λ run. []; numbers = λ n cells scales. bf16_numbers n cells }

abbrev pub int8_coding : Coding
int8_coding = record { cells = int8_cells; scales = int8_scales; numbers = int8_numbers }

abbrev pub int4_coding : Coding
int4_coding = record { cells = int4_cells; scales = int4_scales; numbers = int4_numbers }

-- the table: a format's number is its place
unfoldable pub codings : List Coding
codings = f32_coding ∷ bf16_coding ∷ int8_coding ∷ int4_coding ∷ []

-- of a format that is not known, nothing is written, and zeros are read
abbrev pub no_coding : Coding
no_coding = record { cells = λ run. []; scales = λ run. []; numbers = λ n cells scales. replicate n 0 }

abbrev pub coding_of : ℕ → Coding
coding_of format = get_or codings format no_coding

-- the cells and scale words of a run, and the n numbers that cells and scale words read as
unfoldable pub row_cells : ℕ → List ℕ → List ℕ
row_cells format = (coding_of format).cells

unfoldable pub row_scales : ℕ → List ℕ → List ℕ
row_scales format = (coding_of format).scales

unfoldable pub row_numbers : ℕ → ℕ → List ℕ → List ℕ → List ℕ
row_numbers format = (coding_of format).numbers
