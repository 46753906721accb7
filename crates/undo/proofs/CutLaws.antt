-- A layer that has given rows in both buffers, and nothing else: what a truncation makes of it, and of every other layer.
-- It holds by the laws of rows where positions are removed, and elsewhere since nothing is written.
use mathlib.Core.Path.{◌≡◌, sym, subst}
use mathlib.Core.Logic.{◌≢◌}
use mathlib.Core.List.{List}
use Prim.Native.Nat.{ℕ, ◌-◌, ◌≤◌, ◌<◌, min}
use native.Mathlib.Omega.{arith}
use native.Mathlib.Decide.{dec_lt}
use lib.ListN.{length, take, length-replicate}
use lib.Seq.{take_all, length-take-le}
use Rattle.shapes.specs.declared.Shape.{Shape}
use Rattle.shapes.specs.Shape.{bytes_of, words_of, total}
use Rattle.rows.specs.Row.{row_cells, row_scales}
use Rattle.shapes.specs.Buffers.{Buffers}
use Rattle.buffers.specs.Write.{zeros}
use Rattle.buffers.specs.Calls.{removed}
use Rattle.buffers.proofs.WriteLaws.{Written, written_size}
use Rattle.buffers.proofs.Nothing.{removed_none}
use Rattle.undo.specs.Survivors.{Rows}
use Rattle.undo.proofs.RowLaws.{holds_cut}
use Rattle.undo.proofs.NumberLaws.{whole_first, first_rows}
use Rattle.undo.proofs.LayerLaws.{HasRows, Sizes, InRoom, has_still}

-- layer m, which has `len` positions, truncated to t: positions are removed where t is below `len`
module _ {s : Shape} {m : ℕ} (b : Buffers) (k : InRoom s m b) (len t : ℕ) (w : len ≤ s.capacity) where
  cut_or_not : (P : Buffers → Type 0) → Dec (t < len) → (t < len → P (removed s m len t b)) → (len ≤ t → P b) → P (removed s m len t b)
  cut_or_not P (yes u) x y = x u
  cut_or_not P (no u) x y = subst P (sym (removed_none s m len b t (omega arith))) (y (omega arith))

  cut : (a : ℕ) {buf : List ℕ} → t < len → length buf ≡ total a s → Written a s m t (len - t) (zeros a) buf
  cut a u e = record { layer = k.layer; span = omega arith; sized = λ side x h y i z. length-replicate a 0; whole = e }

  cut_sizes : t < len → Sizes s (removed s m len t b)
  unfolding removed
  cut_sizes u = (written_size (cut (bytes_of s) u k.sizes.0), written_size (cut (words_of s) u k.sizes.1))

  pub truncate_sizes : Sizes s (removed s m len t b)
  truncate_sizes = cut_or_not (Sizes s) (dec_lt t len) cut_sizes (λ h. k.sizes)

  cut_others : t < len → {l n : ℕ} {r : Rows} → l ≢ m → HasRows s l n r b → HasRows s l n r (removed s m len t b)
  unfolding removed
  cut_others u d x = has_still b d x (cut (bytes_of s) u k.sizes.0) (cut (words_of s) u k.sizes.1)

  pub truncate_others : {l n : ℕ} {r : Rows} → l ≢ m → HasRows s l n r b → HasRows s l n r (removed s m len t b)
  truncate_others {l} {n} {r} d x = cut_or_not (HasRows s l n r) (dec_lt t len) (λ u. cut_others u d x) (λ h. x)

  cut_own : t < len → {r : Rows} → HasRows s m len r b → HasRows s m (min len t) (take t r) (removed s m len t b)
  unfolding removed
  cut_own u {r} x =
      let e : min len t ≡ t = omega arith in
      rw e
      (record {
        count = length-take-le t r (omega (arith, x.count));
        whole = whole_first x.whole t;
        span = omega (arith, x.span);
        cells_held = holds_cut x.cells_held (cut (bytes_of s) u k.sizes.0) u (first_rows (row_cells s.format) s r t);
        scales_held = holds_cut x.scales_held (cut (words_of s) u k.sizes.1) u (first_rows (row_scales s.format) s r t);
      })

  pub truncate_own : {r : Rows} → HasRows s m len r b → HasRows s m (min len t) (take t r) (removed s m len t b)
  truncate_own {r} x =
      cut_or_not (HasRows s m (min len t) (take t r)) (dec_lt t len) (λ u. cut_own u x)
      (λ h.
      let e : min len t ≡ len = omega arith in
      rw (e, take_all t r (omega (arith, x.count))) x)
