-- The examples that the paper's section Examples marks to be proved, as one list: what is asked, and what the paper says comes out.
use Rattle.std.specs.Prelude.{ℕ, ◌≡◌, List, [], ◌∷◌, ◌++◌, map, length, replicate}
use Rattle.numbers.specs.Word.{float, word, bf16}
use Rattle.numbers.specs.Scale.{scale_of}
use Rattle.numbers.specs.Code.{code8, code4}
use Rattle.groups.specs.Group.{packed, unpacked}
use Rattle.replies.specs.Outcome.{Outcome}
use Rattle.shapes.specs.declared.Shape.{Shape}
use Rattle.shapes.specs.Shape.{head_size_of, cell_total, scale_total}
use Rattle.shapes.specs.Buffers.{Buffers, buffers}
use Rattle.store.specs.Calls.{Store, open_of, append_of}
use Rattle.heads.specs.Calls.{head_scores_of, head_sums_of}

pub data Asked : Type 0 where
  -- the scale of a run, by its divisor
  scale : ℕ → List ℕ → Asked
  -- a run in INT8: its scale and its codes
  run8 : List ℕ → Asked
  -- a run of 32 in INT4: its scale, its bytes, and what these read as
  group4 : List ℕ → Asked
  -- the INT8 and the INT4 code of a quotient, by its pattern
  quotient : ℕ → Asked
  quotient4 : ℕ → Asked
  -- the BF16 pattern of a word
  half : ℕ → Asked
  -- keys and values appended to a store of a shape, newly opened in used buffers: the reply, all cells, all scale words
  stored : Shape → List ℕ → List ℕ → Asked
  -- the first m positions of head 0 in such a store, scored under a query and a scale: the reply, the scores
  scored : Shape → List ℕ → List ℕ → List ℕ → ℕ → ℕ → Asked
  -- and summed under weights: the reply, the sums
  weighed : Shape → List ℕ → List ℕ → List ℕ → Asked

-- a shape in the paper's order
abbrev shape : ℕ → ℕ → ℕ → ℕ → ℕ → Shape
shape f l h d c = record { format = f; layers = l; heads = h; head_size = d; capacity = c }

-- keys and values appended to a store of a shape, newly opened in used buffers
abbrev filled : Shape → List ℕ → List ℕ → Outcome Store
filled s keys values =
    let new = (open_of s (buffers (replicate (cell_total s) 0xa5) (replicate (scale_total s) 0xa5))).result in
    append_of new.rec new.memory 0 keys values

-- what comes out: floats as words
unfoldable pub answer : Asked → List ℕ
answer (scale divisor run) = word (scale_of divisor run) ∷ []
answer (run8 run) = word (scale_of 127 run) ∷ map (λ w. code8 w (scale_of 127 run)) run
answer (group4 run) = word (scale_of 7 run) ∷ (packed run (scale_of 7 run) ++ unpacked (packed run (scale_of 7 run)) (scale_of 7 run))
answer (quotient bits) = code8 bits (float 0x3f80_0000) ∷ []
answer (quotient4 bits) = code4 bits (float 0x3f80_0000) ∷ []
answer (half w) = bf16 w ∷ []
answer (stored s keys values) = let done = filled s keys values in done.reply ∷ (done.result.memory.cells ++ done.result.memory.scales)
answer (scored s keys values query x m) =
    let b = (filled s keys values).result in
    let done = head_scores_of b.rec b.memory 0 0 (map float query) (float x) (replicate m 0xa5a5_a5a5) in
    done.reply ∷ done.result
answer (weighed s keys values weights) =
    let b = (filled s keys values).result in
    let done = head_sums_of b.rec b.memory 0 0 (map float weights) (replicate (head_size_of s) 0xa5a5_a5a5) in
    done.reply ∷ done.result

-- example n of the paper
pub data Example : Type 0 where
  -- what is asked, and what it says
  P : ℕ → Asked → List ℕ → Example
  -- a shape opened in any buffers of exactly its need, and the reply
  Opened : ℕ → Shape → ℕ → Example
  -- a shape outside the limits: 1 in any buffers
  Outside : ℕ → Shape → Example

abbrev pub Holds : Example → Type 0
Holds (P n asked said) = answer asked ≡ said
Holds (Opened n s reply) = (b : Buffers) → length b.cells ≡ cell_total s → length b.scales ≡ scale_total s → (open_of s b).reply ≡ reply
Holds (Outside n s) = (b : Buffers) → (open_of s b).reply ≡ 1

abbrev pub AllHold : List Example → Type 0
AllHold [] = Unit {0}
AllHold (e ∷ es) = Holds e × AllHold es

-- n numbers or bytes alike
abbrev all : ℕ → ℕ → List ℕ
all n w = replicate n w

-- 7 at 0, -7 at 16
abbrev group2 : List ℕ
group2 = 0x40e0_0000 ∷ all 15 0 ++ (0xc0e0_0000 ∷ all 15 0)

unfoldable pub examples : List Example
examples =
    -- 127, 0.5, -0.5, -2.5
    P 1 (run8 (0x42fe_0000 ∷ 0x3f00_0000 ∷ 0xbf00_0000 ∷ 0xc020_0000 ∷ [])) (0x3f80_0000 ∷ 0x7f ∷ 0x01 ∷ 0xff ∷ 0xfd ∷ [])
    -- the same through an append: INT8, one layer and head, D 4, C 2
    ∷ P 1 (stored (shape 2 1 1 4 2) (0x42fe_0000 ∷ 0x3f00_0000 ∷ 0xbf00_0000 ∷ 0xc020_0000 ∷ []) (all 4 0))
    (0 ∷ 0x7f ∷ 0x01 ∷ 0xff ∷ 0xfd ∷ all 12 0 ++ (0x3f80_0000 ∷ 0 ∷ 0x3f80_0000 ∷ 0 ∷ []))
    ∷ P 2 (group4 group2)
    (0x3f80_0000 ∷ 0x1f ∷ all 15 0x88 ++ (0x40e0_0000 ∷ all 15 0 ++ (0xc0e0_0000 ∷ all 15 0)))
    -- all zero; all NaN, of two payloads and both signs
    ∷ P 3 (group4 (all 32 0)) (0x3f80_0000 ∷ all 16 0x88 ++ all 32 0)
    ∷ P 3 (group4 (all 20 0x7fc0_0000 ++ all 12 0xff80_0001)) (0x3f80_0000 ∷ all 16 0x88 ++ all 32 0)
    -- one infinity, either sign, the rest finite
    ∷ P 4 (group4 (0x7f80_0000 ∷ all 31 0x3f80_0000)) (0x7f80_0000 ∷ all 16 0x88 ++ all 32 0x7fc0_0000)
    ∷ P 4 (group4 (all 20 0xff7f_ffff ++ (0xff80_0000 ∷ all 11 1))) (0x7f80_0000 ∷ all 16 0x88 ++ all 32 0x7fc0_0000)
    -- 3, -2, 0, -0 smallest subnormals at 0 to 3, -3 and 1 at 16 and 17
    ∷ P 5 (group4 (3 ∷ 0x8000_0002 ∷ 0 ∷ 0x8000_0000 ∷ all 12 0 ++ (0x8000_0003 ∷ 1 ∷ all 14 0)))
    (0 ∷ 0x0f ∷ 0xf0 ∷ all 14 0x88 ++ (0 ∷ 0x8000_0000 ∷ all 14 0 ++ (0x8000_0000 ∷ all 15 0)))
    ∷ P 5 (scale 7 (all 31 0 ++ (4 ∷ []))) (1 ∷ [])
    ∷ P 6 (scale 127 (63 ∷ [])) (0 ∷ [])
    ∷ P 6 (scale 127 (64 ∷ [])) (1 ∷ [])
    ∷ P 7 (quotient 0x3eff_ffff) (0 ∷ [])
    ∷ P 7 (quotient 0x3f00_0000) (1 ∷ [])
    ∷ P 7 (quotient 0xbf00_0000) (0xff ∷ [])
    ∷ P 7 (quotient4 0x3eff_ffff) (8 ∷ [])
    ∷ P 7 (quotient4 0x3f00_0000) (9 ∷ [])
    ∷ P 7 (quotient4 0xbf00_0000) (7 ∷ [])
    ∷ P 8 (half 0x3f80_8000) (0x3f80 ∷ [])
    ∷ P 8 (half 0x3f81_8000) (0x3f82 ∷ [])
    ∷ P 8 (half 0x7f7f_ffff) (0x7f80 ∷ [])
    -- the same through an append: BF16, one layer and head, D 3, C 1
    ∷ P 8 (stored (shape 1 1 1 3 1) (0x3f80_8000 ∷ 0x3f81_8000 ∷ 0x7f7f_ffff ∷ []) (all 3 0))
    (0 ∷ 0x80 ∷ 0x3f ∷ 0x82 ∷ 0x3f ∷ 0x80 ∷ 0x7f ∷ all 6 0)
    -- the group of P2 as key, under 2 at 0 and 3 at 16 and the scale 0.5; as value, under the weight 0.25
    ∷ P 9 (scored (shape 3 1 1 32 1) group2 (all 32 0) (0x4000_0000 ∷ all 15 0 ++ (0x4040_0000 ∷ all 15 0)) 0x3f00_0000 1) (0 ∷ 0xc060_0000 ∷ [])
    ∷ P 9 (weighed (shape 3 1 1 32 1) (all 32 0) group2 (0x3e80_0000 ∷ [])) (0 ∷ 0x3fe0_0000 ∷ all 15 0 ++ (0xbfe0_0000 ∷ all 15 0))
    -- F32, H 64, D 256, C 4,096
    ∷ Opened 10 (shape 0 2 64 256 4096) 0
    ∷ Outside 10 (shape 0 3 64 256 4096)
    ∷ []
