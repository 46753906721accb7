-- A table has its length, its values, and grows at its end: a loop that fills a slice in order leaves a table and the rest.
-- Each holds by induction on the number of values.
use mathlib.Core.Path.{◌≡◌, refl, ap, ◌∙◌}
use mathlib.Core.List.{List, [], ◌∷◌, ◌++◌, append-nil, append_assoc}
use Prim.Native.Nat.{ℕ, zero, suc, ◌+◌, ◌-◌, ◌≤◌, ◌<◌, suc-le-suc}
use native.Mathlib.Nat.{not-suc-le-zero, le_of_suc-le-suc, zero-add, suc-add, zero-lt-suc}
use native.Mathlib.Numerals.{add-one}
use native.Mathlib.Omega.{arith}
use lib.ListN.{length, get_or, set, take, drop, replicate, drop_of_length-le}
use lib.Seq.{take_at, drop_at, drop-drop, drop-cons, set_at, append_snoc, ext_get_or, get_or_at}
use Rattle.lists.specs.Chunks.{tab}

module _ {A : Type 0} where
  -- n values
  pub tab-length : (n : ℕ) (f : ℕ → A) → length (tab n f) ≡ n
  unfolding tab
  tab-length zero f = refl
  tab-length (suc n) f = ap suc (tab-length n (λ i. f (suc i)))

  -- value i stands at i
  pub tab-get_or : (n : ℕ) (f : ℕ → A) (i : ℕ) (d : A) → i < n → get_or (tab n f) i d ≡ f i
  unfolding tab
  tab-get_or zero f i d h = absurd (not-suc-le-zero h)
  tab-get_or (suc n) f zero d h = refl
  tab-get_or (suc n) f (suc i) d h = tab-get_or n (λ i. f (suc i)) i d (le_of_suc-le-suc h)

  -- a list with the values of the table is the table
  pub tab_of : (n : ℕ) (f : ℕ → A) (l : List A) (d : A) → length l ≡ n → ((i : ℕ) → i < n → get_or l i d ≡ f i) → l ≡ tab n f
  tab_of n f l d e v =
      ext_get_or d l (tab n f) (rw tab-length e) (λ i h. let b : i < n = omega arith in rw tab-get_or (v i b))

  -- equal values
  pub tab-replicate : (n : ℕ) (z : A) → replicate n z ≡ tab n (λ i. z)
  unfolding tab
  tab-replicate zero z = refl
  tab-replicate (suc n) z = rw (tab-replicate n z)

  -- functions that agree below n have one table
  pub tab_same : (n : ℕ) (f g : ℕ → A) → ((i : ℕ) → i < n → f i ≡ g i) → tab n f ≡ tab n g
  unfolding tab
  tab_same zero f g e = refl
  tab_same (suc n) f g e =
      let h = tab_same n (λ i. f (suc i)) (λ i. g (suc i)) (λ i b. e (suc i) (suc-le-suc b)) in
      rw (e 0 (zero-lt-suc n), h)

  -- the first n values, then the m after them
  pub tab-add : (n m : ℕ) (f : ℕ → A) → tab (n + m) f ≡ tab n f ++ tab m (λ i. f (n + i))
  unfolding tab
  tab-add zero m f = simp zero-add
  tab-add (suc n) m f = rw suc-add (ap (λ (r : List A). f 0 ∷ r) (tab-add n m (λ i. f (suc i)) ∙ simp suc-add))

  -- one more value, at the end
  pub tab_more : (n : ℕ) (f : ℕ → A) → tab (suc n) f ≡ tab n f ++ (f n ∷ [])
  unfolding tab
  tab_more zero f = refl
  tab_more (suc n) f = ap (λ (r : List A). f 0 ∷ r) (tab_more n (λ i. f (suc i)))

  -- the turn: a store at j makes the first j values the first j + 1
  pub tab_turn : (j : ℕ) (f : ℕ → A) (l : List A) → j < length l → set (tab j f ++ drop j l) j (f j) ≡ tab (j + 1) f ++ drop (j + 1) l
  tab_turn j f l h =
      rw (add-one, drop-cons l j (f j), tab_more, append_snoc)
      (set_at (tab j f) (get_or l j (f j)) (drop (suc j) l) (f j) j (tab-length j f))

  -- the same of what a loop has in hand: a slice that is the first j values and the rest, and the value to store
  pub tab-set : (j : ℕ) (f : ℕ → A) (l : List A) {out : List A} {v : A} → j < length l → out ≡ tab j f ++ drop j l → v ≡ f j
      → set out j v ≡ tab (j + 1) f ++ drop (j + 1) l
  tab-set j f l h o e = rw (o, e) (tab_turn j f l h)

  -- the turn of k values at once: the next k places were lent as `&mut out[j..e]` and came back as y
  pub tab_lent : (j k : ℕ) (f : ℕ → A) (l : List A) {e : ℕ} {out y : List A} → out ≡ tab j f ++ drop j l → j + k ≡ e → y ≡ tab k (λ i. f (j + i))
      → take j out ++ (y ++ drop (e - j) (drop j out)) ≡ tab e f ++ drop e l
  tab_lent j k f l {e} o q given =
      let w : e - j ≡ k = omega arith in
      let s = tab-length j f in
      rw (given, w, o, take_at _ (drop j l) j s, drop_at _ (drop j l) j s, ← q, tab-add, append_assoc, drop-drop)

  -- filled up to j, a list has at j what it had there
  pub tab_next : (j : ℕ) (f : ℕ → A) (l : List A) (d : A) → j < length l → get_or (tab j f ++ drop j l) j d ≡ get_or l j d
  tab_next j f l d h = rw (drop-cons l j d) (get_or_at (tab j f) (get_or l j d) (drop (suc j) l) d j (tab-length j f))

  -- filled to its end, it is the table
  pub tab_full : (n : ℕ) (f : ℕ → A) (l : List A) → length l ≡ n → tab n f ++ drop n l ≡ tab n f
  tab_full n f l e = let h : length l ≤ n = omega arith in rw (drop_of_length-le l h) (append-nil (tab n f))

  -- the end of the loop: it has passed every place
  pub tab-done : (n : ℕ) (f : ℕ → A) (l : List A) {out : List A} {j : ℕ} → out ≡ tab j f ++ drop j l → j ≡ n → length l ≡ n
      → out ≡ tab n f
  tab-done n f l o e h = o ∙ rw e (tab_full n f l h)
