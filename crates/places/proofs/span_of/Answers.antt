-- What passes the test are positions of a block, and no product on the way to their ends is large.
use mathlib.Core.Path.{◌≡◌}
use Prim.Native.Nat.{ℕ, ◌+◌, ◌*◌, ◌≤◌}
use native.Mathlib.Nat.{add_assoc}
use native.Mathlib.Omega.{arith}
use Rattle.replies.proofs.Flags.{passed, failed}
use Rattle.shapes.specs.declared.Shape.{Shape}
use Rattle.shapes.specs.Shape.{bytes_of, words_of}
use Rattle.shapes.proofs.ShapeLaws.{limits_facts, cell_bytes_most, scale-words_most}
use Rattle.places.specs.Place.{block_at, row_of}
use Rattle.places.specs.Span.{span_of}
use Rattle.places.proofs.SpanLaws.{SpanIn, span_facts, rows_small}
use Rattle.places.proofs.span_of.Goals as goal

-- the products of a row of r elements, where the test passed
abbrev Small : Shape → ℕ → ℕ → ℕ → ℕ → ℕ → ℕ → Type 0
Small s l side h p n r =
    let first = row_of s (block_at s l side h) p in
    (block_at s l side h ≤ 16384) × (first + n ≤ 67108864) × (first * r ≤ 68719476736) × ((first + n) * r ≤ 68719476736)

module _ {s : Shape} {l side h p n : ℕ} (k : SpanIn s l side h p n) {r : ℕ} where
  cells-small : r ≡ bytes_of s → Small s l side h p n r
  cells-small q = rows_small k (rw q (cell_bytes_most s (limits_facts s k.in-limits)))

  words-small : r ≡ words_of s → Small s l side h p n r
  words-small q = rows_small k (rw q (scale-words_most s (limits_facts s k.in-limits)))

pub returns-then-not-has_span : goal.returns-then-not-has_span
unfolding span_of
returns-then-not-has_span c = rw (failed c.has_span.ensures c.if-not-has_span.true)

pub overflow_mul-block-2 : goal.overflow_mul-block-2
overflow_mul-block-2 c =
    omega (arith, cells-small (span_facts (passed c.has_span.ensures c.if-not-has_span.false)) c.cell_bytes-c.ensures)

pub overflow_add-block-2 : goal.overflow_add-block-2
overflow_add-block-2 c =
    omega (arith, cells-small (span_facts (passed c.has_span.ensures c.if-not-has_span.false)) c.cell_bytes-c.ensures)

pub overflow_mul-first : goal.overflow_mul-first
overflow_mul-first c =
    omega (arith, cells-small (span_facts (passed c.has_span.ensures c.if-not-has_span.false)) c.cell_bytes-c.ensures)

pub overflow_add-first : goal.overflow_add-first
overflow_add-first c =
    omega (arith, cells-small (span_facts (passed c.has_span.ensures c.if-not-has_span.false)) c.cell_bytes-c.ensures)

pub overflow_add-end : goal.overflow_add-end
overflow_add-end c =
    omega (arith, cells-small (span_facts (passed c.has_span.ensures c.if-not-has_span.false)) c.cell_bytes-c.ensures)

pub overflow_mul-result : goal.overflow_mul-result
overflow_mul-result c =
    omega (arith, cells-small (span_facts (passed c.has_span.ensures c.if-not-has_span.false)) c.cell_bytes-c.ensures)

pub overflow_mul-result-2 : goal.overflow_mul-result-2
overflow_mul-result-2 c =
    omega (arith, cells-small (span_facts (passed c.has_span.ensures c.if-not-has_span.false)) c.cell_bytes-c.ensures)

pub overflow_mul-result-3 : goal.overflow_mul-result-3
overflow_mul-result-3 c =
    omega (arith, words-small (span_facts (passed c.has_span.ensures c.if-not-has_span.false)) c.scale_words-w.ensures)

pub overflow_mul-result-4 : goal.overflow_mul-result-4
overflow_mul-result-4 c =
    omega (arith, words-small (span_facts (passed c.has_span.ensures c.if-not-has_span.false)) c.scale_words-w.ensures)

pub returns : goal.returns
unfolding span_of
returns c =
    rw (passed c.has_span.ensures c.if-not-has_span.false, c.cell_bytes-c.ensures, c.scale_words-w.ensures)
    (simp add_assoc)
