-- One turn more or several, and when two runs of turns end alike.
-- Each holds by the definition, at the last turn.
use mathlib.Core.Path.{◌≡◌, refl, ap, subst, ◌∙◌}
use Prim.Native.Nat.{ℕ, zero, suc, ◌+◌, ◌-◌, ◌<◌}
use native.Mathlib.Nat.{add-zero, add-suc}
use native.Mathlib.Numerals.{add-one}
use native.Mathlib.Omega.{arith}
use Rattle.lists.specs.Chunks.{turns}

module _ {A : Type 0} where
  -- turn j makes j turns j + 1
  pub turns_turn : (j : ℕ) (f : ℕ → A → A) (x : A) → f j (turns j f x) ≡ turns (j + 1) f x
  unfolding turns
  turns_turn j f x = rw add-one

  -- the same of what a loop has in hand: y after j turns, and z after one more
  pub turns_next : (j : ℕ) (f : ℕ → A → A) (x : A) {y z : A} → y ≡ turns j f x → z ≡ f j y → z ≡ turns (j + 1) f x
  turns_next j f x o e = e ∙ rw o (turns_turn j f x)

  -- p turns, then the k after them
  pub turns-add : (p k : ℕ) (f : ℕ → A → A) (x : A) → turns (p + k) f x ≡ turns k (λ i. f (p + i)) (turns p f x)
  unfolding turns
  turns-add p zero f x = rw add-zero
  turns-add p (suc k) f x = rw add-suc (ap (f (p + k)) (turns-add p k f x))

  -- the same of what a loop has in hand: y after j turns, and z after k more
  pub turns_more : (j k : ℕ) (f : ℕ → A → A) (x : A) {y z : A} → y ≡ turns j f x → z ≡ turns k (λ i. f (j + i)) y → z ≡ turns (j + k) f x
  turns_more j k f x o e = e ∙ rw (o, turns-add)

  -- turns that agree at each value that is reached end alike
  pub turns_same : (n : ℕ) (f g : ℕ → A → A) (x : A)
      → ((i : ℕ) → i < n → f i (turns i f x) ≡ g i (turns i f x)) → turns n f x ≡ turns n g x
  unfolding turns
  turns_same zero f g x e = refl
  turns_same (suc n) f g x e = let h = turns_same n f g x (λ i b. e i (omega arith)) in rw (e n (omega arith), h)

  -- what holds at the start, and which each turn keeps, holds at the end
  pub turns_keep : (P : A → Type 0) (n : ℕ) (f : ℕ → A → A) {x : A}
      → ((i : ℕ) → i < n → (y : A) → P y → P (f i y)) → P x → P (turns n f x)
  unfolding turns
  turns_keep P zero f k p = p
  turns_keep P (suc n) f k p = k n (omega arith) _ (turns_keep P n f (λ i b. k i (omega arith)) p)

  -- what turn j establishes, and each later turn keeps, holds at the end; Q holds throughout
  pub turns_once : (Q P : A → Type 0) (n j : ℕ) (f : ℕ → A → A) {x : A} → j < n → Q x → ((i : ℕ) → i < n → (y : A) → Q y → Q (f i y))
      → ((y : A) → Q y → P (f j y)) → ((i : ℕ) → i < n → j < i → (y : A) → Q y → P y → P (f i y)) → P (turns n f x)
  unfolding turns
  turns_once Q P n j f {x} w q k e later =
      let d : suc j + (n - suc j) ≡ n = omega arith in
      let before = turns_keep Q j f (λ i b. k i (omega arith)) q in
      let end = turns_keep (λ (y : A). Q y × P y) (n - suc j) (λ i. f (suc j + i))
      (λ i b y z. (k (suc j + i) (omega arith) y z.0, later (suc j + i) (omega arith) (omega arith) y z.0 z.1))
      (k j w _ before, e _ before) in
      subst (λ (m : ℕ). P (turns m f x)) d (rw turns-add end.1)
