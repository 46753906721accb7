-- A layer that has given rows in both buffers, and nothing else: what an append makes of it, and of every other layer.
-- Each holds by the laws of rows, once for the cells and once for the scale words.
use mathlib.Core.Path.{◌≡◌, refl, ◌∙◌}
use mathlib.Core.Bool.{true}
use mathlib.Core.Logic.{◌≢◌}
use mathlib.Core.List.{List, ◌++◌}
use Prim.Native.Nat.{ℕ, ◌+◌, ◌*◌, ◌≤◌, ◌<◌}
use native.Mathlib.Omega.{arith}
use lib.ListN.{length, replicate, length-append}
use borrow.Author.Tests.{lt-ltb}
use Rattle.lists.proofs.Tab.{tab-length}
use Rattle.shapes.specs.declared.Shape.{Shape}
use Rattle.shapes.specs.Shape.{bytes_of, words_of, width, positions, cell_total, scale_total, limits}
use Rattle.rows.specs.Row.{row_cells, row_scales}
use Rattle.shapes.specs.Buffers.{Buffers, buffers}
use Rattle.buffers.specs.Write.{written}
use Rattle.buffers.specs.Calls.{appended, whole_rows}
use Rattle.buffers.proofs.WriteLaws.{Written, written_size}
use Rattle.buffers.proofs.RunLaws.{whole-rows, cell_layer, scale_layer}
use Rattle.store.specs.Record.{most_of}
use Rattle.undo.specs.Survivors.{Rows, no_rows, rows_of}
use Rattle.undo.proofs.RowLaws.{HoldsRows, holds_none, holds_still, holds-added}
use Rattle.undo.proofs.NumberLaws.{AllWide, whole_none, whole-joined, whole_given, encoded, given, old_rows, new_rows}

-- layer l of both buffers has n positions, which are the rows r, and nothing else
pub record HasRows (s : Shape) (l n : ℕ) (r : Rows) (b : Buffers) : Type 0 where
  pub count : length r ≡ n
  pub whole : AllWide s r
  pub span : n ≤ most_of s l
  pub cells_held : HoldsRows (bytes_of s) s l n (encoded (row_cells s.format) s r) b.cells
  pub scales_held : HoldsRows (words_of s) s l n (encoded (row_scales s.format) s r) b.scales

-- no rows in zeros
pub has_none : (s : Shape) (l : ℕ) → HasRows s l 0 no_rows (buffers (replicate (cell_total s) 0) (replicate (scale_total s) 0))
has_none s l =
    record {
      count = refl;
      whole = whole_none s;
      span = omega arith;
      cells_held = holds_none (bytes_of s) s l _;
      scales_held = holds_none (words_of s) s l _;
    }

-- a write keeps the rows of every other layer, in both buffers
pub has_still : {s : Shape} {l m n p i : ℕ} {r : Rows} (b : Buffers) {new new' : ℕ → ℕ → ℕ → List ℕ} → l ≢ m → HasRows s l n r b
    → Written (bytes_of s) s m p i new b.cells → Written (words_of s) s m p i new' b.scales
    → HasRows s l n r (buffers (written (bytes_of s) s m p i new b.cells) (written (words_of s) s m p i new' b.scales))
has_still b d x c w =
    record {
      count = x.count;
      whole = x.whole;
      span = x.span;
      cells_held = holds_still x.cells_held d c;
      scales_held = holds_still x.scales_held d w;
    }

-- rows written at the end of n rows, in a buffer of either kind
rows_added : (enc : List ℕ → List ℕ) {a : ℕ} {s : Shape} {l n : ℕ} {r : Rows} {b : Buffers} {buf : List ℕ} (keys values : List ℕ)
    → let i = positions s (length keys) in HasRows s l n r b → HoldsRows a s l n (encoded enc s r) buf → Written a s l n i (given enc s keys values) buf
    → HoldsRows a s l (n + i) (encoded enc s (r ++ rows_of s keys values)) (written a s l n i (given enc s keys values) buf)
rows_added enc {s = s} {n = n} {r = r} keys values x len w =
    holds-added len w (old_rows enc s r n x.count keys values) (new_rows enc s r n x.count keys values)

-- both buffers have the sizes that the shape needs
abbrev pub Sizes : Shape → Buffers → Type 0
Sizes s b = (length b.cells ≡ cell_total s) × (length b.scales ≡ scale_total s)

-- and the shape has the layer
pub record InRoom (s : Shape) (l : ℕ) (b : Buffers) : Type 0 where
  pub in-limits : limits s ≡ true
  pub layer : l < s.layers
  pub sizes : Sizes s b

-- rows appended to layer m, which has `len` positions
module _ {s : Shape} {m : ℕ} (b : Buffers) (k : InRoom s m b) (len : ℕ) (keys values : List ℕ)
    (whole : whole_rows s (length keys) (length values) ≡ true) (room : len + positions s (length keys) ≤ s.capacity) where
  keys-whole : length keys ≡ positions s (length keys) * width s
  keys-whole = (whole-rows s (length keys) (length values) whole).0

  values-whole : length values ≡ positions s (length keys) * width s
  values-whole = (whole-rows s (length keys) (length values) whole).1

  new_cells : Written (bytes_of s) s m len (positions s (length keys)) (given (row_cells s.format) s keys values) b.cells
  new_cells =
      record {
        layer = k.layer;
        span = room;
        sized = cell_layer s (positions s (length keys)) k.in-limits keys values keys-whole values-whole;
        whole = k.sizes.0;
      }

  new_scales : Written (words_of s) s m len (positions s (length keys)) (given (row_scales s.format) s keys values) b.scales
  new_scales =
      record {
        layer = k.layer;
        span = room;
        sized = scale_layer s (positions s (length keys)) k.in-limits keys values keys-whole values-whole;
        whole = k.sizes.1;
      }

  pub append_sizes : Sizes s (appended s m len keys values b)
  unfolding appended
  append_sizes = (written_size new_cells, written_size new_scales)

  pub append_others : {l n : ℕ} {r : Rows} → l ≢ m → HasRows s l n r b → HasRows s l n r (appended s m len keys values b)
  unfolding appended
  append_others d x = has_still b d x new_cells new_scales

  pub append_own : {r : Rows} → HasRows s m len r b
      → HasRows s m (len + positions s (length keys)) (r ++ rows_of s keys values) (appended s m len keys values b)
  unfolding appended
  append_own {r} x =
      record {
        count = length-append r (rows_of s keys values) ∙ rw (x.count, tab-length);
        whole = whole-joined x.whole (whole_given s keys values keys-whole values-whole);
        span = rw (lt-ltb m s.layers k.layer) room;
        cells_held = rows_added (row_cells s.format) keys values x x.cells_held new_cells;
        scales_held = rows_added (row_scales s.format) keys values x x.scales_held new_scales;
      }
