-- NaNs counted in F32 rows: where none is counted there is none, number by number or at each place of four rows.
-- Each holds by the turns of a count.
use mathlib.Core.Path.{◌≡◌, refl, sym, ap, ◌∙◌}
use mathlib.Core.Bool.{Bool, true, false, cond, ◌||◌}
use mathlib.Core.List.{List}
use Prim.Native.Nat.{ℕ, zero, suc, ◌+◌, ◌*◌, ◌/◌, ◌%◌, ◌≤◌, ◌<◌}
use native.Mathlib.Nat.{zero-mul, suc-mul, mul-le-mul_right}
use native.Mathlib.Omega.{arith}
use lib.Ieee.{binary32, nan_bits}
use Rattle.std.specs.Int.{from_bool}
use Rattle.lists.specs.Chunks.{turns, some, part}
use Rattle.lists.proofs.Part.{room, part-part}
use Rattle.lists.proofs.Some.{some_none, sum_none, sum_most}
use Rattle.lists.proofs.Turns.{turns-add}
use Rattle.rows.specs.Row.{f32_at}

-- 1 for what holds, 0 for what does not
abbrev one_if : Bool → ℕ
one_if b = cond b 1 0

pub bit : (b : Bool) → from_bool b ≡ one_if b
bit true = refl
bit false = refl

most : (b : Bool) → one_if b ≤ 1
most true = omega arith
most false = omega arith

pub none_counted : (b : Bool) → one_if b ≡ 0 → b ≡ false
none_counted true e = absurd (omega arith)
none_counted false e = refl

-- number d, where it is a NaN
abbrev pub nan_count : List ℕ → ℕ → ℕ
nan_count cells d = one_if (nan_bits binary32 (f32_at cells d))

-- n numbers, none of them a NaN
abbrev pub Plain : ℕ → List ℕ → Type 0
Plain n cells = some n (λ d. nan_bits binary32 (f32_at cells d)) ≡ false

pub one_at_most : (cells : List ℕ) (d : ℕ) → nan_count cells d ≤ 1
one_at_most cells d = most (nan_bits binary32 (f32_at cells d))

-- where none is counted in four rows of m numbers
pub counted_plain : (cells : List ℕ) {m n nans : ℕ} → nans ≡ turns (4 * m) (λ d sum. sum + nan_count cells d) 0 → m ≡ n → nans ≡ 0
    → Plain (4 * n) cells
counted_plain cells {m} o e z = rw (← e) (sum_none (4 * m) (nan_count cells) _ (λ d w. none_counted _ w) (sym o ∙ z))

-- rows in which it holds of none, one after the other
some_rows : (m n : ℕ) (p : ℕ → Bool) → ((i : ℕ) → i < m → some n (λ d. p (i * n + d)) ≡ false) → some (m * n) p ≡ false
unfolding some turns
some_rows zero n p h = rw zero-mul
some_rows (suc m) n p h =
    let before = some_rows m n p (λ i b. h i (omega arith)) in
    rw (suc-mul, turns-add (m * n) n (λ i found. found || p i) false, before) (h m (omega arith))

-- the NaNs at place d of four rows of n numbers
module _ (cells : List ℕ) (n : ℕ) where
  abbrev pub four_nans : ℕ → ℕ
  four_nans d = turns 4 (λ i nans. nans + nan_count cells (i * n + d)) 0

  pub four_at_most : (d : ℕ) → four_nans d ≤ 4
  four_at_most d = sum_most 4 1 (λ i. nan_count cells (i * n + d)) (λ i. one_at_most cells (i * n + d))

  -- where none is counted at any place, the four rows have none
  pub four_plain : {nans : ℕ} → nans ≡ turns n (λ d nans. nans + four_nans d) 0 → nans ≡ 0 → Plain (4 * n) cells
  four_plain o z =
      some_rows 4 n _
      (λ i b. sum_none n four_nans _
      (λ d w. some_none 4 i (λ i. nan_bits binary32 (f32_at cells (i * n + d))) (sum_none 4 (λ i. nan_count cells (i * n + d)) _ (λ j v. none_counted _ v) w) b)
      (sym o ∙ z))

-- two rows of four: number d of row i % 2 of half i / 2 is number d of row i, and where the half lies
module _ (n half : ℕ) (e : half ≡ 8 * n) (i d : ℕ) (b : i < 4) (w : d < n) where
  pub half_fits : (i / 2 * half + half ≤ 2 * half) × ((i % 2 * n + d) * 4 + 4 ≤ half) × (i * n + d < 4 * n)
  half_fits =
      let q : i / 2 ≤ 1 = omega arith in
      let r : i % 2 ≤ 1 = omega arith in
      (omega (arith, mul-le-mul_right half q), omega (arith, mul-le-mul_right n r), omega (arith, room n b))

  pub half_number : (q : ℕ) {r : List ℕ} (cells : List ℕ) → r ≡ part (q * half) half cells → q ≡ i / 2
      → f32_at r (i % 2 * n + d) ≡ f32_at cells (i * n + d)
  half_number q cells o same =
      let m : i ≡ 2 * (i / 2) + i % 2 = omega arith in
      let k : i * n ≡ (2 * (i / 2) + i % 2) * n = ap (λ (m : ℕ). m * n) m in
      let h = half_fits.1 in
      let s : i / 2 * half + (i % 2 * n + d) * 4 ≡ (i * n + d) * 4 = rw e (omega arith) in
      rw (o, same, part-part, s)
