-- Ways to make a list or a value from its parts: a table, lists joined, a part taken or changed, each chunk changed, and turns taken in order.
-- They render no section of the paper: every section's lists are said with them.
use Rattle.std.specs.Prelude.{ℕ, zero, suc, List, [], ◌∷◌, ◌++◌, Bool, false, ◌||◌, take, drop}

module _ {A : Type 0} where
  -- f 0, f 1, .. : n of them
  unfoldable pub tab : ℕ → (ℕ → A) → List A
  tab zero f = []
  tab (suc n) f = f 0 ∷ tab n (λ i. f (suc i))

  -- f 0, then f 1, .. : n lists in a row
  unfoldable pub joined : ℕ → (ℕ → List A) → List A
  joined zero f = []
  joined (suc n) f = f 0 ++ joined n (λ i. f (suc i))

  -- the k elements from place a
  abbrev pub part : ℕ → ℕ → List A → List A
  part a k l = take k (drop a l)

  -- f on the k elements from place a; all others as they were
  unfoldable pub at : ℕ → ℕ → (List A → List A) → List A → List A
  at a k f l = take a l ++ (f (part a k l) ++ drop k (drop a l))

  -- f i on chunk i, of the first n chunks of k elements each; all others as they were
  unfoldable pub each : ℕ → ℕ → (ℕ → List A → List A) → List A → List A
  each k zero f l = l
  each k (suc n) f l = f 0 (take k l) ++ each k n (λ i. f (suc i)) (drop k l)

  -- n turns from x, turn 0 first
  unfoldable pub turns : ℕ → (ℕ → A → A) → A → A
  turns zero f x = x
  turns (suc n) f x = f n (turns n f x)

-- whether p holds of one of the numbers below n
unfoldable pub some : ℕ → (ℕ → Bool) → Bool
some n p = turns n (λ i found. found || p i) false
