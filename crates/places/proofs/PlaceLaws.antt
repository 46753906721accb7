-- Places: each row lies in its buffer, no two rows meet, and a buffer is its rows.
-- Each holds since a row is a block and a position in it, and a block a layer, a side and a head.
use mathlib.Core.Path.{◌≡◌, ap, subst}
use mathlib.Core.Logic.Dec
use mathlib.Core.Logic.{◌≢◌, ◌⊎◌, inl, inr}
use mathlib.Core.List.{List}
use Prim.Native.Nat.{ℕ, zero, suc, ◌+◌, ◌*◌, ◌/◌, ◌%◌, ◌≤◌, ◌<◌}
use native.Mathlib.Nat.{mul-le-mul_right, add-mul, mod-lt, div-add-mod', div-lt_iff_lt-mul}
use native.Mathlib.Omega.{arith}
use native.Mathlib.Decide.{dec_lt, dec_le, ℕ_discrete}
use lib.ListN.{length}
use Rattle.lists.specs.Chunks.{part}
use Rattle.lists.proofs.Part.{room, chunks_ext}
use Rattle.shapes.specs.declared.Shape.{Shape}
use Rattle.shapes.specs.Shape.{total}
use Rattle.places.specs.Place.{block_at, row_of, place}

-- the paper's own words for a place
pub place_paper : (b : ℕ) (s : Shape) (l side h p : ℕ) → place b s l side h p ≡ ((2 * l + side) * s.heads + h) * s.capacity * b + p * b
place_paper b s l side h p = add-mul (block_at s l side h * s.capacity) p b

-- a head's block that a shape has, and a position of it
pub record Block (s : Shape) (l side h : ℕ) : Type 0 where
  pub layer_in : l < s.layers
  pub side_in : side < 2
  pub head_in : h < s.heads

pub record Place (s : Shape) (l side h p : ℕ) : Type 0 where
  pub layer_in : l < s.layers
  pub side_in : side < 2
  pub head_in : h < s.heads
  pub position_in : p < s.capacity

pub block_of : {s : Shape} {l side h p : ℕ} → Place s l side h p → Block s l side h
block_of k = record { layer_in = k.layer_in; side_in = k.side_in; head_in = k.head_in }

module _ {s : Shape} {l side h : ℕ} (k : Block s l side h) where
  pub block_below : block_at s l side h < 2 * s.layers * s.heads
  block_below =
      let x : 2 * l + side < 2 * s.layers = omega (arith, k.layer_in, k.side_in) in
      omega (arith, room s.heads x, k.head_in)

  -- rows of a block end within the buffer's, and in a buffer of b elements a row
  pub rows_end : (p n : ℕ) → p + n ≤ s.capacity → row_of s (block_at s l side h) p + n ≤ 2 * s.layers * s.heads * s.capacity
  rows_end p n w = omega (arith, room s.capacity block_below)

  pub rows_in : (b p n : ℕ) → p + n ≤ s.capacity → place b s l side h p + n * b ≤ total b s
  unfolding total
  rows_in b p n w = rw (← add-mul (row_of s (block_at s l side h) p) n b) (mul-le-mul_right b (rows_end p n w))

pub row_in : {s : Shape} {l side h p : ℕ} (b : ℕ) → Place s l side h p → place b s l side h p + b ≤ total b s
row_in {p = p} b k = omega (arith, rows_in (block_of k) b p 1 (omega arith))

-- position p' of a side of layer l' is one of the positions p to p + n - 1 of that side of layer l
abbrev pub Among : ℕ → ℕ → ℕ → ℕ → ℕ → ℕ → ℕ → Type 0
Among l side p n l' side' p' = ((l' ≡ l) × (side' ≡ side)) × ((p ≤ p') × (p' < p + n))

pub among : (l side p n l' side' p' : ℕ) → Dec (Among l side p n l' side' p')
among l side p n l' side' p' = Dec.and (Dec.and (ℕ_discrete l' l) (ℕ_discrete side' side)) (Dec.and (dec_le p p') (dec_lt p' (p + n)))

-- where a row of chunk n lies in chunk m, it is the same chunk
alone : (k : ℕ) {n m i : ℕ} → Dec (n < m) → Dec (m < n) → i < k → m * k ≤ n * k + i → n * k + i < m * k + k → n ≡ m
alone k (yes u) d a b c = absurd (omega (arith, room k u))
alone k (no u) (yes v) a b c = absurd (omega (arith, room k v))
alone k (no u) (no v) a b c = omega arith

either : {A B : Type 0} → Dec A → Dec B → ((A → ⊥) → (B → ⊥) → ⊥) → A ⊎ B
either (yes a) d f = inl a
either (no a) (yes b) f = inr b
either (no a) (no b) f = absurd (f a b)

module _ {s : Shape} {l side h l' side' h' p' : ℕ} (k : Block s l side h) (k' : Place s l' side' h' p') where
  same_block : block_at s l' side' h' ≡ block_at s l side h → (l' ≡ l) × (side' ≡ side) × (h' ≡ h)
  same_block e =
      let a : 2 * l' + side' ≡ 2 * l + side = alone s.heads (dec_lt _ _) (dec_lt _ _) k'.head_in (omega (arith, k.head_in)) (omega (arith, k.head_in)) in
      let c = ap (λ (n : ℕ). n * s.heads) a in
      (omega (arith, k.side_in, k'.side_in), omega (arith, k.side_in, k'.side_in), omega arith)

  -- a row that is none of n rows from position p of a block on lies before them or after them
  pub apart : (p n : ℕ) → p + n ≤ s.capacity → (Among l side p n l' side' p' → h' ≢ h)
      → let first = row_of s (block_at s l side h) p in
      let row = row_of s (block_at s l' side' h') p' in
      (row < first) ⊎ (first + n ≤ row)
  apart p n span out =
      either (dec_lt _ _) (dec_le _ _)
      (λ u v.
      let e : block_at s l' side' h' ≡ block_at s l side h =
      alone s.capacity (dec_lt _ _) (dec_lt _ _) k'.position_in (omega arith) (omega arith) in
      let c = ap (λ (n : ℕ). n * s.capacity) e in
      let z = same_block e in
      out ((z.0, z.1), (omega arith, omega arith)) z.2)

-- what holds of row p of chunk i, for each of them, holds of each row
each_row : (k m : ℕ) (P : ℕ → Type 0) → ((i : ℕ) → i < m → (p : ℕ) → p < k → P (i * k + p)) → (r : ℕ) → r < m * k → P r
each_row zero m P f r w = absurd (omega arith)
each_row (suc k) m P f r w =
    let d : 0 < suc k = omega arith in
    subst P (div-add-mod' r (suc k)) (f (r / suc k) ((div-lt_iff_lt-mul d).1 w) (r % suc k) (mod-lt r d))

-- buffers with the same row at every place are the same
pub places_same : (b : ℕ) (s : Shape) (buf buf' : List ℕ) → length buf ≡ total b s → length buf' ≡ total b s
    → ((l side h p : ℕ) → Place s l side h p → part (place b s l side h p) b buf ≡ part (place b s l side h p) b buf') → buf ≡ buf'
unfolding total
places_same b s buf buf' w w' same =
    chunks_ext b (2 * s.layers * s.heads * s.capacity) buf buf' w w'
    (each_row s.capacity (2 * s.layers * s.heads) (λ r. part (r * b) b buf ≡ part (r * b) b buf')
    (λ i u p v.
    each_row s.heads (2 * s.layers) (λ i. part (row_of s i p * b) b buf ≡ part (row_of s i p * b) b buf')
    (λ a x h y.
    let e : 2 * (a / 2) + a % 2 ≡ a = omega arith in
    rw (← e) (same (a / 2) (a % 2) h p (record { layer_in = omega arith; side_in = omega arith; head_in = y; position_in = v })))
    i u))
