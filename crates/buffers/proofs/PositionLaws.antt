-- Rows written some positions after others, and a loop that writes a side so.
-- It holds at each place: its row is one of the earlier positions, of the later ones, or of none.
use mathlib.Core.Path.{◌≡◌, refl, sym, ap, ◌∙◌}
use mathlib.Core.List.{List}
use Prim.Native.Nat.{ℕ, ◌+◌, ◌-◌, ◌*◌, ◌≤◌, ◌<◌}
use native.Mathlib.Nat.{add-mul, mul-le-mul_right}
use Rattle.std.proofs.Common.{min}
use native.Mathlib.Omega.{arith}
use native.Mathlib.Decide.{dec_lt}
use lib.ListN.{length}
use Rattle.lists.specs.Chunks.{part}
use Rattle.shapes.specs.declared.Shape.{Shape}
use Rattle.shapes.specs.Shape.{width, total}
use Rattle.places.specs.Place.{place}
use Rattle.places.proofs.PlaceLaws.{Place, Among, among, places_same}
use Rattle.buffers.specs.Write.{written_side}
use Rattle.buffers.specs.Calls.{head_numbers}
use Rattle.buffers.proofs.WriteLaws.{ForSide, side_none, side_keeps, side_there, side_elsewhere}
use Rattle.buffers.proofs.RunLaws.{position-numbers}

-- j + k positions: the first j, and then the next k
module _ {b : ℕ} {s : Shape} {l side p : ℕ} {rows : ℕ → ℕ → List ℕ} (j k : ℕ) (next : ℕ → ℕ → List ℕ) (f : ForSide b s l side p (j + k) rows)
    (e : (h : ℕ) → h < s.heads → (i : ℕ) → i < k → next h i ≡ rows h (j + i)) where
  first : ForSide b s l side p j rows
  first = record { layer = f.layer; side_in = f.side_in; span = omega (arith, f.span); sized = λ h w i v. f.sized h w i (omega arith) }

  further : ForSide b s l side (p + j) k next
  further =
      record { layer = f.layer; side_in = f.side_in; span = omega (arith, f.span); sized = λ h w i v. rw (e h w i v) (f.sized h w (j + i) (omega arith)) }

  module _ (x : List ℕ) (whole : length x ≡ total b s) where
    abbrev between : List ℕ
    between = written_side b s l side p j rows x

    join_at : {l' side' h p' : ℕ} → Place s l' side' h p' → Dec (Among l side p (j + k) l' side' p') → Dec (p' < p + j)
        → part (place b s l' side' h p') b (written_side b s l side (p + j) k next between)
        ≡ part (place b s l' side' h p') b (written_side b s l side p (j + k) rows x)
    join_at u (yes t) (yes v) =
        side_elsewhere further u (λ o. omega (arith, o.1.0)) between (side_keeps first x whole)
        ∙ side_there first u (t.0, (t.1.0, v)) x whole
        ∙ sym (side_there f u t x whole)
    join_at {h = h} {p' = p'} u (yes t) (no v) =
        let i : j + (p' - (p + j)) ≡ p' - p = omega arith in
        side_there further u (t.0, (omega arith, omega (arith, t.1.1))) between (side_keeps first x whole)
        ∙ e h u.head_in _ (omega (arith, t.1.1))
        ∙ rw i (sym (side_there f u t x whole))
    join_at u (no o) d =
        side_elsewhere further u (λ t. o (t.0, (omega (arith, t.1.0), omega (arith, t.1.1)))) between (side_keeps first x whole)
        ∙ side_elsewhere first u (λ t. o (t.0, (t.1.0, omega (arith, t.1.1)))) x whole
        ∙ sym (side_elsewhere f u o x whole)

    pub side_join : written_side b s l side (p + j) k next between ≡ written_side b s l side p (j + k) rows x
    side_join =
        places_same b s _ _ (side_keeps further between (side_keeps first x whole)) (side_keeps f x whole)
        (λ l' side' h p' u. join_at u (among l side p (j + k) l' side' p') (dec_lt p' (p + j)))

-- up to eight positions from position j on are written next, and their numbers lie among m
pub record Next (n j k w m : ℕ) : Type 0 where
  pub some : 0 < k
  pub passed : j + k ≤ n
  pub numbers_in : j * w + k * w ≤ m

pub next_in : {n j k w m : ℕ} → m ≡ n * w → k ≡ min (n - j) 8 → j < n → Next n j k w m
next_in {n} {j} {k} {w} q e v =
    let u : j + k ≤ n = omega arith in
    record { some = omega arith; passed = u; numbers_in = rw (q, ← add-mul j k w) (mul-le-mul_right w u) }

-- a loop over n positions, whose rows are a code of their numbers: out is x with the first j of them
module _ (b : ℕ) (s : Shape) (l side p n : ℕ) (code : List ℕ → List ℕ) (numbers x : List ℕ) where
  abbrev coded : ℕ → ℕ → List ℕ
  coded h i = code (head_numbers s numbers h i)

  pub record Known : Type 0 where
    pub for : ForSide b s l side p n coded
    pub whole : length x ≡ total b s

  abbrev pub Positions : ℕ → List ℕ → Type 0
  Positions j out = (j ≤ n) × (out ≡ written_side b s l side p j coded x) × (length out ≡ length x)

  pub no_positions : Positions 0 x
  no_positions = (omega arith, sym (side_none b s p l side coded x), refl)

module _ {b : ℕ} {s : Shape} {l side p n : ℕ} {code : List ℕ → List ℕ} {numbers x : List ℕ} (known : Known b s l side p n code numbers x) where
  upto : (m : ℕ) → m ≤ n → ForSide b s l side p m (λ h i. code (head_numbers s numbers h i))
  upto m w =
      let f = known.for in
      record { layer = f.layer; side_in = f.side_in; span = omega arith; sized = λ h v i u. f.sized h v i (omega arith) }

  -- the turn: k positions from position j on were written from their numbers, lent as `&numbers[a..e]`
  pub position_turn : (k : ℕ) {j e : ℕ} {out y : List ℕ} → Positions b s l side p n code numbers x j out → j + k ≤ n → j * width s + k * width s ≡ e
      → y ≡ written_side b s l side (p + j) k (λ h i. code (head_numbers s (part (j * width s) (e - j * width s) numbers) h i)) out
      → Positions b s l side p n code numbers x (j + k) y
  position_turn k {j} {e} o w q f =
      let next : ℕ → ℕ → List ℕ = λ h i. code (head_numbers s (part (j * width s) (e - j * width s) numbers) h i) in
      let turn = side_join j k next (upto (j + k) w) (λ h v i u. ap code (position-numbers s numbers j k h i v u q)) x known.whole in
      (w, rw (f, o.1) turn, rw (f, o.1, turn, side_keeps (upto (j + k) w) x known.whole) (sym known.whole))

  -- the end: all of them are written
  pub positions-done : {j : ℕ} {out : List ℕ} → Positions b s l side p n code numbers x j out → n ≤ j
      → out ≡ written_side b s l side p n (λ h i. code (head_numbers s numbers h i)) x
  positions-done {j} o w = let e : j ≡ n = omega arith in rw e at o.1
