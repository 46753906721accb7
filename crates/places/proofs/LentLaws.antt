-- What is lent out of both buffers between the ends of a span lies in them, and is the rows of its positions.
-- Each holds by the laws of spans, for cells with b = B and for scale words with b = S.
use mathlib.Core.Path.{◌≡◌, ap, ◌∙◌}
use mathlib.Core.List.{List}
use Prim.Native.Nat.{ℕ, ◌+◌, ◌-◌, ◌*◌, ◌≤◌, ◌<◌}
use native.Mathlib.Nat.{one-mul}
use native.Mathlib.Omega.{arith}
use lib.ListN.{length}
use Rattle.lists.specs.Chunks.{part}
use Rattle.shapes.specs.Buffers.{Buffers, buffers}
use Rattle.shapes.specs.declared.Shape.{Shape}
use Rattle.shapes.specs.Shape.{bytes_of, words_of, cell_total, scale_total}
use Rattle.shapes.proofs.ShapeLaws.{limits_facts, scale-words_most}
use Rattle.places.specs.declared.Span.{Span}
use Rattle.places.specs.Place.{place, cells_at_of, scales_at}
use Rattle.places.specs.Span.{span_of}
use Rattle.places.proofs.SpanLaws.{SpanIn, spanned, rows_small, span_in, span_size, span-part, span-length, span_row}

abbrev pub lent : Span → List ℕ → List ℕ → Buffers
lent x cells scales =
    buffers
    (part x.cells_from (x.cells_to - x.cells_from) cells)
    (part x.scales_from (x.scales_to - x.scales_from) scales)

-- both parts lie in buffers of these lengths, and the ends of the scale words are no large numbers
pub record Inside (x : Span) (cells scales : ℕ) : Type 0 where
  pub cells_rise : x.cells_from ≤ x.cells_to
  pub cells_end : x.cells_to ≤ cells
  pub scales_rise : x.scales_from ≤ x.scales_to
  pub scales_end : x.scales_to ≤ scales
  pub scales_small : x.scales_to ≤ 68719476736

module _ {s : Shape} {l side h p n : ℕ} (k : SpanIn s l side h p n) {x : Span} (e : x ≡ span_of s l side h p n) where
  cells-from : x.cells_from ≡ place (bytes_of s) s l side h p
  cells-from = ap (λ (y : Span). y.cells_from) (e ∙ spanned k)

  cells-to : x.cells_to ≡ place (bytes_of s) s l side h (p + n)
  cells-to = ap (λ (y : Span). y.cells_to) (e ∙ spanned k)

  scales-from : x.scales_from ≡ place (words_of s) s l side h p
  scales-from = ap (λ (y : Span). y.scales_from) (e ∙ spanned k)

  scales-to : x.scales_to ≡ place (words_of s) s l side h (p + n)
  scales-to = ap (λ (y : Span). y.scales_to) (e ∙ spanned k)

  pub lent_in : {cells scales : ℕ} → cells ≡ cell_total s → scales ≡ scale_total s → Inside x cells scales
  lent_in c w =
      let small = rows_small k (scale-words_most s (limits_facts s k.in-limits)) in
      record {
        cells_rise = omega (arith, cells-from, cells-to, span_size k (bytes_of s));
        cells_end = omega (arith, cells-to, span_in k (bytes_of s));
        scales_rise = omega (arith, scales-from, scales-to, span_size k (words_of s));
        scales_end = omega (arith, scales-to, span_in k (words_of s));
        scales_small = omega (arith, scales-to, small.3);
      }

  module _ (cells scales : List ℕ) where
    pub lent_cells : length cells ≡ cell_total s → length (lent x cells scales).cells ≡ n * bytes_of s
    lent_cells = span-length k (bytes_of s) cells cells-from cells-to

    pub lent_scales : length scales ≡ scale_total s → length (lent x cells scales).scales ≡ n * words_of s
    lent_scales = span-length k (words_of s) scales scales-from scales-to

    -- row i of what is lent
    pub cells_row : (i : ℕ) → i < n → part (i * bytes_of s) (bytes_of s) (lent x cells scales).cells ≡ cells_at_of s l side h (p + i) (buffers cells scales)
    cells_row = span_row k (bytes_of s) cells cells-from cells-to

    pub scales_row : (i : ℕ) → i < n → part (i * words_of s) (words_of s) (lent x cells scales).scales ≡ scales_at s l side h (p + i) (buffers cells scales)
    scales_row = span_row k (words_of s) scales scales-from scales-to

-- one position that is lent is its row
pub lent_row : {s : Shape} {l side h p : ℕ} (k : SpanIn s l side h p 1) {x : Span} → x ≡ span_of s l side h p 1 → (cells scales : List ℕ)
    → ((lent x cells scales).cells ≡ cells_at_of s l side h p (buffers cells scales)) × ((lent x cells scales).scales ≡ scales_at s l side h p (buffers cells scales))
lent_row {s} k e cells scales = (
  rw (span-part k (bytes_of s) cells (cells-from k e) (cells-to k e)) (rw one-mul),
  rw (span-part k (words_of s) scales (scales-from k e) (scales-to k e)) (rw one-mul),
)
