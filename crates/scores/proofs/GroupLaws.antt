-- A row's groups, added one by one, and those of four rows at once.
-- Each holds by the turns of a sum, since the sums of four rows grow each on its own.
use mathlib.Core.Path.{◌≡◌, ◌∙◌}
use mathlib.Core.List.{List}
use Prim.Native.Nat.{ℕ, ◌+◌, ◌*◌, ◌/◌, ◌<◌}
use native.Mathlib.Omega.{arith}
use native.Mathlib.Nat.{add-mul, mul_assoc}
use lib.ListN.{length, get_or, replicate}
use lib.Seq.{get_or-take, get_or-drop}
use lib.Ieee.{Float, nan, binary32, mul}
use Rattle.lists.specs.Chunks.{tab, turns, part}
use Rattle.lists.proofs.Part.{part-part, room}
use Rattle.lists.proofs.Tab.{tab_same, tab-get_or}
use Rattle.lists.proofs.Turns.{turns-add}
use Rattle.numbers.specs.Word.{float}
use Rattle.attention.specs.Order.{summed, add_byte, group_dot, int4_dot, added}
use Rattle.attention.proofs.OrderLaws.{rows_columns, summed_same}

module _ (query : List Float) (cells scales : List ℕ) where
  -- group g's sum, and that times its scale
  abbrev pub group_sum : ℕ → Float
  group_sum g = group_dot (part (g * 32) 32 query) (part (g * 16) 16 cells)

  abbrev pub group_term : ℕ → Float
  group_term g = mul binary32 (group_sum g) (float (get_or scales g 0))

  -- a row's score is all of them, times the given scale
  pub groups_all : (x : Float) (g : ℕ) {total : Float} → total ≡ summed g group_term → length query ≡ g * 32
      → mul binary32 total x ≡ mul binary32 (int4_dot query cells scales) x
  unfolding int4_dot
  groups_all x g o h = let e : length query / 32 ≡ g = omega arith in rw (o, e)

-- the bytes of group g of row i, of rows of w groups
abbrev pub bytes_at : List ℕ → ℕ → ℕ → ℕ → List ℕ
bytes_at cells w g i = part ((i * w + g) * 16) 16 cells

-- sum i, once it took four bytes from byte k on
abbrev pub word_added : List Float → List ℕ → ℕ → ℕ → ℕ → List Float → ℕ → Float
word_added query cells w g k sums i = turns 4 (λ j. add_byte query (bytes_at cells w g i) (k + j)) (get_or sums i nan)

-- four bytes more
pub words_turn : (query : List Float) (cells : List ℕ) (w g k : ℕ) {sums next : List Float}
    → sums ≡ tab 4 (λ i. turns k (add_byte query (bytes_at cells w g i)) (float 0)) → next ≡ tab 4 (word_added query cells w g k sums)
    → next ≡ tab 4 (λ i. turns (k + 4) (add_byte query (bytes_at cells w g i)) (float 0))
words_turn query cells w g k o e = rw e (tab_same 4 _ _ (λ i b. rw (o, tab-get_or 4 _ i nan b, turns-add)))

-- group g of row i, times its scale
abbrev pub four_term : List Float → List ℕ → List ℕ → ℕ → ℕ → ℕ → Float
four_term query cells scales w g i =
    mul binary32 (group_dot (part (g * 32) 32 query) (bytes_at cells w g i)) (float (get_or scales (i * w + g) 0))

-- added to the totals, of which there are four
pub four_added : (query : List Float) (cells scales : List ℕ) (w g : ℕ) (totals : List Float) {sums : List Float} → length totals ≡ 4
    → sums ≡ tab 4 (λ i. group_dot (part (g * 32) 32 query) (bytes_at cells w g i))
    → added (λ i. mul binary32 (get_or sums i nan) (float (get_or scales (i * w + g) 0))) totals ≡ added (four_term query cells scales w g) totals
unfolding added
four_added query cells scales w g totals n e = rw n (tab_same 4 _ _ (λ i b. rw (e, tab-get_or 4 _ i nan b)))

-- it is group g of the row's own cells
row_bytes : (cells : List ℕ) (w g i : ℕ) → g < w → bytes_at cells w g i ≡ part (g * 16) 16 (part (i * (w * 16)) (w * 16) cells)
row_bytes cells w g i h = let b = room 16 h in rw (part-part, add-mul, mul_assoc)

row_scale : (scales : List ℕ) (w g i : ℕ) → g < w → get_or scales (i * w + g) 0 ≡ get_or (part (i * w) w scales) g 0
row_scale scales w g i h = rw (get_or-take, get_or-drop)

pub four_int4_dots : (query : List Float) (cells scales : List ℕ) (w : ℕ) {totals : List Float} → w ≡ length query / 32
    → totals ≡ turns w (λ g. added (four_term query cells scales w g)) (replicate 4 (float 0))
    → totals ≡ tab 4 (λ i. int4_dot query (part (i * (w * 16)) (w * 16) cells) (part (i * w) w scales))
unfolding int4_dot
four_int4_dots query cells scales w h e =
    e
    ∙ rows_columns 4 w (four_term query cells scales w)
    ∙ tab_same 4 _ _ (λ i b. rw (← h) (summed_same w _ _ (λ g k. rw (row_bytes cells w g i k, row_scale scales w g i k))))
