-- Rows written to positions of a buffer that has b elements for each: they stand at their places, and every other row is as it was.
-- Each holds since rows do not meet, and no later turn of the heads and sides writes where an earlier one wrote; cells have b = B, scale words b = S.
use mathlib.Core.Path.{◌≡◌, refl, sym, ap, ◌∙◌}
use mathlib.Core.Logic.{◌≢◌, ◌⊎◌, inl, inr}
use mathlib.Core.List.{List}
use Prim.Native.Nat.{ℕ, ◌+◌, ◌-◌, ◌*◌, ◌≤◌, ◌<◌}
use native.Mathlib.Nat.{zero-mul, add-mul, mul-le-mul_right}
use native.Mathlib.Omega.{arith}
use lib.ListN.{length}
use Rattle.lists.specs.Chunks.{part, joined, turns}
use Rattle.lists.proofs.Part.{room, Keeps, KeepsEach, part-part}
use Rattle.lists.proofs.At.{at_keeps, at_id, at_part, at_part_before, at_part-after}
use Rattle.lists.proofs.Joined.{Sized, joined_length, joined-part}
use Rattle.lists.proofs.Turns.{turns_keep, turns_once}
use Rattle.shapes.specs.declared.Shape.{Shape}
use Rattle.shapes.specs.Shape.{total}
use Rattle.places.specs.Place.{block_at, row_of, place}
use Rattle.places.proofs.PlaceLaws.{Block, Place, Among, rows_in, apart}
use Rattle.buffers.specs.Write.{put, written_side, written}

-- each row has b elements: the rows of a side by head and position, those of a layer by side
abbrev pub SideRows : ℕ → Shape → ℕ → (ℕ → ℕ → List ℕ) → Type 0
SideRows b s n rows = (h : ℕ) → h < s.heads → Sized b n (rows h)

abbrev pub LayerRows : ℕ → Shape → ℕ → (ℕ → ℕ → ℕ → List ℕ) → Type 0
LayerRows b s n rows = (side : ℕ) → side < 2 → SideRows b s n (rows side)

-- rows for positions p to p + n - 1 of a side, and of a layer of a whole buffer
pub record ForSide (b : ℕ) (s : Shape) (l side p n : ℕ) (rows : ℕ → ℕ → List ℕ) : Type 0 where
  pub layer : l < s.layers
  pub side_in : side < 2
  pub span : p + n ≤ s.capacity
  pub sized : SideRows b s n rows

pub record Written (b : ℕ) (s : Shape) (l p n : ℕ) (rows : ℕ → ℕ → ℕ → List ℕ) (buf : List ℕ) : Type 0 where
  pub layer : l < s.layers
  pub span : p + n ≤ s.capacity
  pub sized : LayerRows b s n rows
  pub whole : length buf ≡ total b s

-- f leaves the k elements from place a of a list of m elements
abbrev pub KeepsPart : ℕ → ℕ → ℕ → (List ℕ → List ℕ) → Type 0
KeepsPart m a k f = (x : List ℕ) → length x ≡ m → part a k (f x) ≡ part a k x

-- turns that keep the length: a part that each keeps, and one that turn j makes and each later turn keeps
record Turning (m n : ℕ) (f : ℕ → List ℕ → List ℕ) : Type 0 where
  keeps : KeepsEach m n f

module _ {m n : ℕ} {f : ℕ → List ℕ → List ℕ} (t : Turning m n f) where
  turns_size : Keeps m (turns n f)
  turns_size x e = turns_keep (λ (y : List ℕ). length y ≡ m) n f t.keeps e

  turns-part : (a k : ℕ) → ((i : ℕ) → i < n → KeepsPart m a k (f i)) → KeepsPart m a k (turns n f)
  turns-part a k same x e =
      (turns_keep (λ (y : List ℕ). (length y ≡ m) × (part a k y ≡ part a k x)) n f
      (λ i w y z. (t.keeps i w y z.0, same i w y z.0 ∙ z.1)) (e, refl)).1

  turns_made : (a k : ℕ) {j : ℕ} {row : List ℕ} → j < n → ((x : List ℕ) → length x ≡ m → part a k (f j x) ≡ row)
      → ((i : ℕ) → i < n → j < i → KeepsPart m a k (f i)) → (x : List ℕ) → length x ≡ m → part a k (turns n f x) ≡ row
  turns_made a k {j} {row} w made same x e =
      turns_once (λ (y : List ℕ). length y ≡ m) (λ (y : List ℕ). part a k y ≡ row) n j f w e t.keeps made
      (λ i b o y d z. same i b o y d ∙ z)

-- no rows written change nothing
module _ (b : ℕ) (s : Shape) (p : ℕ) where
  put_none : (l side h : ℕ) (rows : ℕ → List ℕ) (x : List ℕ) → put b s l side h p 0 rows x ≡ x
  unfolding put joined
  put_none l side h rows x = at_id (place b s l side h p) (0 * b) (λ _. joined 0 rows) x (rw zero-mul)

  pub side_none : (l side : ℕ) (rows : ℕ → ℕ → List ℕ) (x : List ℕ) → written_side b s l side p 0 rows x ≡ x
  unfolding written_side
  side_none l side rows x =
      turns_keep (λ (y : List ℕ). y ≡ x) s.heads (λ h. put b s l side h p 0 (rows h)) (λ h w y e. put_none l side h (rows h) y ∙ e) refl

  pub written_none : (l : ℕ) (rows : ℕ → ℕ → ℕ → List ℕ) (buf : List ℕ) → written b s l p 0 rows buf ≡ buf
  unfolding written
  written_none l rows buf =
      turns_keep (λ (y : List ℕ). y ≡ buf) 2 (λ side. written_side b s l side p 0 (rows side)) (λ side w y e. side_none l side (rows side) y ∙ e) refl

-- in a head's block
module _ (b : ℕ) {s : Shape} {l side h : ℕ} (k : Block s l side h) (p n : ℕ) (rows : ℕ → List ℕ) (span : p + n ≤ s.capacity)
    (sized : Sized b n rows) where
  pub put_keeps : Keeps (total b s) (put b s l side h p n rows)
  unfolding put
  put_keeps =
      at_keeps (place b s l side h p) (n * b) (total b s) (λ _. joined n rows) (λ x e. joined_length b n rows sized) (rows_in k b p n span)

  fits : (x : List ℕ) → length x ≡ total b s → place b s l side h p + n * b ≤ length x
  fits x e = rw e (rows_in k b p n span)

  put_there : (q : ℕ) → p ≤ q → q < p + n → (x : List ℕ) → length x ≡ total b s → part (place b s l side h q) b (put b s l side h p n rows x) ≡ rows (q - p)
  unfolding put
  put_there q u v x e =
      let i : row_of s (block_at s l side h) q ≡ row_of s (block_at s l side h) p + (q - p) = omega arith in
      let a : place b s l side h q ≡ place b s l side h p + (q - p) * b =
      ap (λ (m : ℕ). m * b) i ∙ add-mul (row_of s (block_at s l side h) p) (q - p) b in
      let w : q - p < n = omega arith in
      rw a
      (sym (part-part (place b s l side h p) (n * b) ((q - p) * b) b _ (room b w))
      ∙ rw (at_part (place b s l side h p) (n * b) (λ _. joined n rows) x (λ y q. joined_length b n rows sized) (fits x e))
      (joined-part b n (q - p) rows sized w))

  put_beside : (r : ℕ) → (r < row_of s (block_at s l side h) p) ⊎ (row_of s (block_at s l side h) p + n ≤ r)
      → KeepsPart (total b s) (r * b) b (put b s l side h p n rows)
  unfolding put
  put_beside r (inl w) x e = at_part_before (place b s l side h p) (n * b) (λ _. joined n rows) x (r * b) b (room b w) (omega (arith, fits x e))
  put_beside r (inr w) x e =
      at_part-after (place b s l side h p) (n * b) (λ _. joined n rows) x (λ y u. joined_length b n rows sized) (fits x e) (r * b) b
      (rw (← add-mul (row_of s (block_at s l side h) p) n b) (mul-le-mul_right b w))

-- in each head of a side
module _ {b : ℕ} {s : Shape} {l side p n : ℕ} {rows : ℕ → ℕ → List ℕ} (f : ForSide b s l side p n rows) where
  block : {h : ℕ} → h < s.heads → Block s l side h
  block w = record { layer_in = f.layer; side_in = f.side_in; head_in = w }

  heads : Turning (total b s) s.heads (λ h. put b s l side h p n (rows h))
  heads = record { keeps = λ h w. put_keeps b (block w) p n (rows h) f.span (f.sized h w) }

  pub side_keeps : Keeps (total b s) (written_side b s l side p n rows)
  unfolding written_side
  side_keeps = turns_size heads

  module _ {l' side' h' p' : ℕ} (k : Place s l' side' h' p') where
    head_elsewhere : {h : ℕ} → h < s.heads → (Among l side p n l' side' p' → h' ≢ h)
        → KeepsPart (total b s) (place b s l' side' h' p') b (put b s l side h p n (rows h))
    head_elsewhere {h} w out y d =
        put_beside b (block w) p n (rows h) f.span (f.sized h w) _ (apart (block w) k p n f.span out) y d

    pub side_elsewhere : (Among l side p n l' side' p' → ⊥)
        → KeepsPart (total b s) (place b s l' side' h' p') b (written_side b s l side p n rows)
    unfolding written_side
    side_elsewhere out = turns-part heads (place b s l' side' h' p') b (λ h w. head_elsewhere w (λ t e. out t))

    pub side_there : Among l side p n l' side' p' → (x : List ℕ) → length x ≡ total b s
        → part (place b s l' side' h' p') b (written_side b s l side p n rows x) ≡ rows h' (p' - p)
    unfolding written_side
    side_there t =
        turns_made heads (place b s l' side' h' p') b k.head_in
        (rw (t.0.0, t.0.1) (put_there b (block k.head_in) p n (rows h') f.span (f.sized h' k.head_in) p' t.1.0 t.1.1))
        (λ i w o. head_elsewhere w (λ t e. omega arith))

-- in both sides of a layer
module _ {b : ℕ} {s : Shape} {l q n : ℕ} {rows : ℕ → ℕ → ℕ → List ℕ} {buf : List ℕ} (w : Written b s l q n rows buf) where
  for : {side : ℕ} → side < 2 → ForSide b s l side q n (rows side)
  for v = record { layer = w.layer; side_in = v; span = w.span; sized = w.sized _ v }

  sides : Turning (total b s) 2 (λ side. written_side b s l side q n (rows side))
  sides = record { keeps = λ side v. side_keeps (for v) }

  pub written_size : length (written b s l q n rows buf) ≡ total b s
  unfolding written
  written_size = turns_size sides buf w.whole

module _ (b : ℕ) {s : Shape} {l side h p : ℕ} (k : Place s l side h p) {q n : ℕ} {rows : ℕ → ℕ → ℕ → List ℕ} {buf : List ℕ} (w : Written b s l q n rows buf) where
  pub written_there : q ≤ p → p < q + n → part (place b s l side h p) b (written b s l q n rows buf) ≡ rows side h (p - q)
  unfolding written
  written_there u v =
      turns_made (sides w) (place b s l side h p) b k.side_in (side_there (for w k.side_in) k ((refl, refl), (u, v)))
      (λ i o d. side_elsewhere (for w o) k (λ t. omega (arith, t.0.1))) buf w.whole

module _ (b : ℕ) {s : Shape} {l l' side h p q n : ℕ} {rows : ℕ → ℕ → ℕ → List ℕ} {buf : List ℕ}
    (k : Place s l' side h p) (w : Written b s l q n rows buf) where
  none : (l' ≢ l) ⊎ ((p < q) ⊎ (q + n ≤ p)) → l' ≡ l → q ≤ p → p < q + n → ⊥
  none (inl d) e u v = d e
  none (inr (inl d)) e u v = omega arith
  none (inr (inr d)) e u v = omega arith

  pub written_elsewhere : (l' ≢ l) ⊎ ((p < q) ⊎ (q + n ≤ p))
      → part (place b s l' side h p) b (written b s l q n rows buf) ≡ part (place b s l' side h p) b buf
  unfolding written
  written_elsewhere out =
      turns-part (sides w) (place b s l' side h p) b (λ v u. side_elsewhere (for w u) k (λ t. none out t.0.0 t.1.0 t.1.1)) buf w.whole
