-- Terms added to a sum and to a list of sums: place by place, a stretch at a time, position after position; and scores and sums of positions that agree.
-- Each holds by the laws of tables and turns, since a place's sum takes its own terms alone, in their order.
use mathlib.Core.Path.{◌≡◌, refl, sym, ap, ◌∙◌}
use mathlib.Core.List.{List, ◌++◌, map, append_assoc}
use Prim.Native.Nat.{ℕ, zero, suc, ◌+◌, ◌-◌, ◌≤◌, ◌<◌}
use native.Mathlib.Numerals.{add-one}
use native.Mathlib.Omega.{arith}
use lib.ListN.{length, get_or, set, take, drop, replicate, length-map, get_or-map}
use lib.Seq.{take_at, drop_at, drop-drop, get_or-take, get_or-drop}
use lib.Ieee.{Float, nan, binary32, add, of_bits, to_bits}
use Rattle.lists.specs.Chunks.{tab, turns, part}
use Rattle.lists.proofs.Tab.{tab-length, tab-get_or, tab_of, tab_same, tab-replicate, tab-add, tab-set, tab_next, tab-done}
use Rattle.lists.proofs.Turns.{turns_next, turns_same}
use Rattle.lists.proofs.Part.{part_length}
use Rattle.numbers.specs.Word.{float, word}
use Rattle.attention.specs.Order.{summed, scores_of, sums_of, added}

-- one term more
pub summed_next : (n : ℕ) (term : ℕ → Float) {x y : Float} → x ≡ summed n term → y ≡ add binary32 x (term n) → y ≡ summed (n + 1) term
unfolding summed
summed_next n term o e = turns_next n (λ i sum. add binary32 sum (term i)) (float 0) o e

-- terms that agree
pub summed_same : (n : ℕ) (term term' : ℕ → Float) → ((i : ℕ) → i < n → term i ≡ term' i) → summed n term ≡ summed n term'
unfolding summed
summed_same n term term' e = turns_same n _ _ _ (λ i b. rw (e i b))

-- terms added to a list, and to a table; those that agree add the same
pub added_same : (l : List Float) (t t' : ℕ → Float) → ((i : ℕ) → i < length l → t i ≡ t' i) → added t l ≡ added t' l
unfolding added
added_same l t t' e = tab_same (length l) _ _ (λ i b. rw (e i b))

added-tab : (n : ℕ) (term : ℕ → Float) (f : ℕ → Float) → added term (tab n f) ≡ tab n (λ i. add binary32 (f i) (term i))
unfolding added
added-tab n term f = rw tab-length (tab_same n _ _ (λ i b. rw tab-get_or))

-- the terms of m rows added to a list, one row after the other: each place takes its own, in their order
pub rows_from : (m : ℕ) (term : ℕ → ℕ → Float) (l : List Float)
    → turns m (λ p. added (term p)) l ≡ tab (length l) (λ i. turns m (λ p sum. add binary32 sum (term p i)) (get_or l i nan))
unfolding turns
rows_from zero term l = tab_of (length l) _ l nan refl (λ i b. refl)
rows_from (suc m) term l = rw (rows_from m term l, added-tab)

pub rows_length : (m : ℕ) (term : ℕ → ℕ → Float) (l : List Float) → length (turns m (λ p. added (term p)) l) ≡ length l
rows_length m term l = rw (rows_from m term l, tab-length)

-- d sums before they become words
abbrev columns : ℕ → ℕ → (ℕ → ℕ → Float) → List Float
columns d m term = tab d (λ i. summed m (λ p. term p i))

-- the two loop orders: one position's terms added to the sums of the positions before it, and all positions
rows_turn : (d p : ℕ) (term : ℕ → ℕ → Float) {cur : List Float} → cur ≡ columns d p term → added (term p) cur ≡ columns d (p + 1) term
rows_turn d p term e = rw (e, added-tab) (tab_same d _ _ (λ i b. summed_next p (λ q. term q i) refl refl))

pub rows_columns : (d m : ℕ) (term : ℕ → ℕ → Float) → turns m (λ p. added (term p)) (replicate d (float 0)) ≡ columns d m term
unfolding turns summed
rows_columns d zero term = tab-replicate d (float 0)
rows_columns d (suc m) term = rows_turn d m term (rows_columns d m term) ∙ rw add-one

-- the words of what is made of floats, as a table; those of the columns are the sums
pub mapped-tab : (f : Float → ℕ) (l : List Float) → map f l ≡ tab (length l) (λ i. f (get_or l i nan))
mapped-tab f l = tab_of _ _ (map f l) (f nan) (length-map l f) (λ i b. get_or-map f l i nan)

pub map-tab : (f : Float → ℕ) (n : ℕ) (g : ℕ → Float) → map f (tab n g) ≡ tab n (λ i. f (g i))
map-tab f n g = rw (mapped-tab f (tab n g), tab-length n g) (tab_same n _ _ (λ i b. rw tab-get_or))

pub sums_words : (d m : ℕ) (term : ℕ → ℕ → Float) → map word (turns m (λ p. added (term p)) (replicate d (float 0))) ≡ sums_of d m term
unfolding sums_of
sums_words d m term = rw (rows_columns d m term) (map-tab word d _)

-- l with its term added at each of the first j places
abbrev pub added_to : ℕ → (ℕ → Float) → List Float → List Float
added_to j term l = tab j (λ i. add binary32 (get_or l i nan) (term i)) ++ drop j l

module _ (term : ℕ → Float) (l : List Float) where
  -- at the next place, which was read and is stored
  pub added_next : (j : ℕ) {out : List Float} {v : Float} → j < length l → out ≡ added_to j term l → v ≡ add binary32 (get_or out j nan) (term j)
      → set out j v ≡ added_to (j + 1) term l
  added_next j h o e = tab-set j _ l h o (e ∙ rw (o, tab_next))

  -- at the next k places, lent as `&mut out[j..e]` and handed back with k terms added
  added-part : (j k : ℕ) (those : ℕ → Float) → j + k ≤ length l → ((i : ℕ) → i < k → those i ≡ term (j + i))
      → added those (part j k l) ≡ tab k (λ i. add binary32 (get_or l (j + i) nan) (term (j + i)))
  unfolding added
  added-part j k those h same = rw (part_length j k l h) (tab_same k _ _ (λ i b. rw (get_or-take, get_or-drop, same i b)))

  pub added_lent : (j k : ℕ) (those : ℕ → Float) {e n : ℕ} {out y : List Float} → out ≡ added_to j term l → j + k ≡ e → j + k ≡ n
      → e ≤ length l → ((i : ℕ) → i < k → those i ≡ term (j + i)) → y ≡ added those (part j (e - j) out)
      → take j out ++ (y ++ drop (e - j) (drop j out)) ≡ added_to n term l
  added_lent j k those {e} o q r h same given =
      let w : e - j ≡ k = omega arith in
      let s = tab-length j (λ i. add binary32 (get_or l i nan) (term i)) in
      let t = added-part j k those (omega arith) same in
      rw (given, w, o, take_at _ (drop j l) j s, drop_at _ (drop j l) j s, t, ← r, tab-add, append_assoc, drop-drop)

  -- at every place
  pub added-all : {j : ℕ} {out : List Float} → out ≡ added_to j term l → j ≡ length l → out ≡ added term l
  unfolding added
  added-all o e = tab-done (length l) _ l o e refl

-- positions that agree have the same scores, and the same sums
pub scores_same : (m : ℕ) (dot dot' : ℕ → Float) (x : Float) → ((p : ℕ) → p < m → dot p ≡ dot' p) → scores_of m dot x ≡ scores_of m dot' x
unfolding scores_of
scores_same m dot dot' x e = tab_same m _ _ (λ p u. rw (e p u))

pub sums_same : (d m : ℕ) (term term' : ℕ → ℕ → Float) → ((p i : ℕ) → p < m → term p i ≡ term' p i) → sums_of d m term ≡ sums_of d m term'
unfolding sums_of summed
sums_same d m term term' e = tab_same d _ _ (λ i w. ap word (turns_same m _ _ _ (λ p u. rw (e p i u))))

-- without weights every sum is +0.0
pub no_weights : (d : ℕ) (term : ℕ → ℕ → Float) → sums_of d 0 term ≡ replicate d 0
unfolding sums_of summed turns to_bits of_bits
no_weights d term = sym (tab-replicate d 0)
