-- The ends of some positions of a head's block in both buffers: the paper's Buffers, under Shape and room.
use Rattle.std.specs.Prelude.{ℕ, ◌+◌, Bool, cond, ◌&&◌, ltb, leb}
use Rattle.shapes.specs.Shape.{bytes_of, words_of, limits}
use Rattle.shapes.specs.declared.Shape.{Shape}
use Rattle.places.specs.Place.{place}
use Rattle.places.specs.declared.Span.{Span}

-- whether a shape inside the limits has the block, and the block has positions p to p + n - 1
unfoldable pub has_span_of : Shape → ℕ → ℕ → ℕ → ℕ → ℕ → Bool
has_span_of s l side h p n = limits s && (ltb l s.layers && (ltb side 2 && (ltb h s.heads && leb (p + n) s.capacity)))

-- from the first element of position p to that of position p + n
abbrev pub span_at : Shape → ℕ → ℕ → ℕ → ℕ → ℕ → Span
span_at s l side h p n =
    record {
      cells_from = place (bytes_of s) s l side h p;
      cells_to = place (bytes_of s) s l side h (p + n);
      scales_from = place (words_of s) s l side h p;
      scales_to = place (words_of s) s l side h (p + n);
    }

abbrev pub no_span : Span
no_span = record { cells_from = 0; cells_to = 0; scales_from = 0; scales_to = 0 }

-- nothing where there are no such positions
unfoldable pub span_of : Shape → ℕ → ℕ → ℕ → ℕ → ℕ → Span
span_of s l side h p n = cond (has_span_of s l side h p n) (span_at s l side h p n) no_span
