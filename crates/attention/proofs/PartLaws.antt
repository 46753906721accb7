-- A part of a block, n rows from row p on: it lies in the block, is a block of its own, and has the scores of its rows.
-- Each holds since the part is n chunks of a row's size, r cells and v scale words.
use mathlib.Core.Path.{◌≡◌, refl, ◌∙◌}
use mathlib.Core.List.{List}
use mathlib.Core.Logic.{◌⊎◌, inl, inr}
use Prim.Native.Nat.{ℕ, ◌+◌, ◌-◌, ◌*◌, min, ◌≤◌, ◌<◌}
use native.Mathlib.Nat.{add-mul, mul-le-mul_right}
use native.Mathlib.Omega.{arith}
use Rattle.std.proofs.lemmas.Bool.{cases_lt}
use lib.ListN.{length, drop, length-drop, drop_of_length-le}
use lib.Seq.{take_all, take-nil}
use lib.Ieee.{Float, binary32, mul}
use Rattle.lists.specs.Chunks.{tab, part}
use Rattle.lists.proofs.Part.{room, part_length, part-part}
use Rattle.lists.proofs.Tab.{tab_same}
use Rattle.numbers.specs.Word.{word}
use Rattle.shapes.specs.Shape.{cell_bytes_of, scale_words_of}
use Rattle.shapes.specs.Buffers.{buffers}
use Rattle.rows.proofs.FitLaws.{RowsFit, fits_facts, facts_fit}
use Rattle.attention.specs.Order.{row_dot, scores_of}
use Rattle.attention.specs.Block.{cells_of, scales_in, scores_of_block}
use Rattle.attention.specs.Fits.{ScoredRows}

-- where it lies, and how long it is, of cells or of scale words
part_in : (b p n : ℕ) {m r size : ℕ} → r ≡ b → size ≡ m * b → p + n ≤ m → p * r + n * r ≤ size
part_in b p n e q h = rw (e, q, ← add-mul p n b) (mul-le-mul_right b h)

part_count : (b p n : ℕ) {m r : ℕ} (l : List ℕ) {x : List ℕ} → r ≡ b → length l ≡ m * b → p + n ≤ m
    → x ≡ part (p * r) (n * r) l → length x ≡ n * b
part_count b p n {r = r} l e q h o = rw (o, part_length (p * r) (n * r) l (part_in b p n e q h), e)

pub rows_inside : (p n : ℕ) {format d m cells scales r v : ℕ} → RowsFit format d m cells scales → r ≡ cell_bytes_of format d → v ≡ scale_words_of format d → p + n ≤ m
    → (p * r + n * r ≤ cells) × (p * v + n * v ≤ scales)
rows_inside p n k e q h = (part_in _ p n e k.cell-bytes h, part_in _ p n q k.scale-words h)

-- rows from row p on are the same where no more are asked for than there are
past_end : (a b k n : ℕ) (l : List ℕ) → length l ≤ a → length l ≤ b → part a k l ≡ part b n l
past_end a b k n l h g = rw (drop_of_length-le l h, drop_of_length-le l g, take-nil k, take-nil n)

to_end : (a k n : ℕ) (l : List ℕ) → length l ≤ a + k → length l ≤ a + n → part a k l ≡ part a n l
to_end a k n l h g =
    let s : length (drop a l) ≤ k = simp length-drop (omega arith) in
    let t : length (drop a l) ≤ n = simp length-drop (omega arith) in
    rw (take_all k (drop a l) s, take_all n (drop a l) t)

there_since : (p n m b : ℕ) {q k : ℕ} (l : List ℕ) → length l ≡ m * b → q ≡ min p m → k ≡ min n (m - q)
    → (m < p) ⊎ (p ≤ m) → (m - p < n) ⊎ (n ≤ m - p) → part (q * b) (k * b) l ≡ part (p * b) (n * b) l
there_since p n m b {q} {k} l e o w (inl h) g =
    let s : q ≡ m = omega arith in
    let t : m ≤ p = omega arith in
    past_end (q * b) (p * b) (k * b) (n * b) l (rw s (omega arith)) (rw e (mul-le-mul_right b t))
there_since p n m b {q} {k} l e o w (inr h) (inl g) =
    let s : q ≡ p = omega arith in
    let t : p + k ≡ m = omega arith in
    let u : m ≤ p + n = omega arith in
    rw s
    (to_end (p * b) (k * b) (n * b) l
    (rw (e, ← add-mul p k b, t) (omega arith))
    (rw (e, ← add-mul p n b) (mul-le-mul_right b u)))
there_since p n m b {q} {k} l e o w (inr h) (inr g) =
    let s : q ≡ p = omega arith in
    let t : k ≡ n = omega arith in
    rw (s, t)

rows_there : (p n m b : ℕ) {r size q k : ℕ} (l : List ℕ) → length l ≡ size → r ≡ b → size ≡ m * b → q ≡ min p m → k ≡ min n (m - q)
    → part (q * r) (k * r) l ≡ part (p * r) (n * r) l
rows_there p n m b l x e h o w = rw e (there_since p n m b l (x ∙ h) o w (cases_lt m p) (cases_lt (m - p) n))

-- n rows of m are a block of their own
pub some_rows : (format d m cells scales n : ℕ) {x y : ℕ} → ScoredRows format d m cells scales → n ≤ m → x ≡ n * cell_bytes_of format d → y ≡ n * scale_words_of format d
    → ScoredRows format d n x y
some_rows format d m cells scales n h b e q =
    let k = fits_facts h.1 in
    (h.0, facts_fit (record { known = k.known; small = k.small; few = omega (arith, k.few); whole = k.whole; cell-bytes = e; scale-words = q }))

module _ (format d m : ℕ) (cells scales : List ℕ) (h : ScoredRows format d m (length cells) (length scales)) (p n : ℕ) (b : p + n ≤ m) where
  -- it lies in both
  pub part_inside : {r v : ℕ} → r ≡ cell_bytes_of format d → v ≡ scale_words_of format d
      → (p * r + n * r ≤ length cells) × (p * v + n * v ≤ length scales)
  part_inside e q = rows_inside p n (fits_facts h.1) e q b

  -- it is a block of n rows
  pub part_rows : {k r v : ℕ} {x y : List ℕ} → r ≡ cell_bytes_of format d → v ≡ scale_words_of format d
      → k ≡ n → x ≡ part (p * r) (n * r) cells → y ≡ part (p * v) (n * v) scales → ScoredRows format d k (length x) (length y)
  part_rows e q o c w =
      let k = fits_facts h.1 in
      rw o
      (some_rows format d m (length cells) (length scales) n h (omega arith) (part_count _ p n cells e k.cell-bytes b c)
      (part_count _ p n scales q k.scale-words b w))

-- and of no more rows than there are, those from row p on are as many as there are
module _ (format d m : ℕ) (cells scales : List ℕ) (h : ScoredRows format d m (length cells) (length scales)) (p n : ℕ) {r q k : ℕ} where
  pub cells_there : r ≡ cell_bytes_of format d → q ≡ min p m → k ≡ min n (m - q) → part (q * r) (k * r) cells ≡ part (p * r) (n * r) cells
  cells_there e o w = rows_there p n m _ cells refl e (fits_facts h.1).cell-bytes o w

  pub scales_there : r ≡ scale_words_of format d → q ≡ min p m → k ≡ min n (m - q) → part (q * r) (k * r) scales ≡ part (p * r) (n * r) scales
  scales_there e o w = rows_there p n m _ scales refl e (fits_facts h.1).scale-words o w

module _ (format : ℕ) (query : List Float) (x : Float) (cells scales : List ℕ) where
  -- the score of row i
  abbrev pub score_at : ℕ → ℕ
  score_at i =
      let d = length query in
      let b = buffers cells scales in
      word (mul binary32 (row_dot format query (cells_of format d b i) (scales_in format d b i)) x)

  -- the scores of the part are those of rows p, p + 1, ..
  pub part_scores : (p n : ℕ) {k r v : ℕ} {c w : List ℕ} → r ≡ cell_bytes_of format (length query) → v ≡ scale_words_of format (length query)
      → k ≡ n → c ≡ part (p * r) (n * r) cells → w ≡ part (p * v) (n * v) scales
      → scores_of_block format query x (buffers c w) k ≡ tab n (λ i. score_at (p + i))
  unfolding scores_of_block scores_of
  part_scores p n e q o c w =
      let B = cell_bytes_of format (length query) in
      let W = scale_words_of format (length query) in
      rw (o, c, w, e, q)
      (tab_same n _ _
      (λ i b. rw (
        part-part (p * B) (n * B) (i * B) B cells (room B b),
        part-part (p * W) (n * W) (i * W) W scales (room W b),
        add-mul p i B,
        add-mul p i W,
      )))
