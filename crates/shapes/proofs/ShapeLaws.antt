-- What a shape inside the limits is known by, and the sizes that follow from it.
-- Each holds by the tests that make up the limits, one by one.
use mathlib.Core.Path.{◌≡◌}
use mathlib.Core.Bool.{Bool, true, false}
use Prim.Native.Nat.{ℕ, ◌*◌, ◌≤◌}
use native.Mathlib.Nat.{mul-le-mul}
use native.Mathlib.Omega.{arith}
use lib.Dec.{leb}
use borrow.Author.Tests.{leb-true, eqb-true}
use Rattle.std.specs.Prelude.{Some}
use Rattle.std.specs.Ordering.{nat_cmp, is_le}
use Rattle.std.specs.declared.ops.RangeInclusive.{RangeInclusive}
use Rattle.std.specs.Range.{range_inclusive_start, range_inclusive_end, range_inclusive_exhausted, range_inclusive_contains}
use Rattle.std.proofs.lemmas.Bool.Decides.{nat_tests}
use Rattle.replies.proofs.Flags.{both}
use Rattle.shapes.specs.declared.Shape.{Shape}
use Rattle.shapes.specs.Format.{known, whole_groups_of}
use Rattle.shapes.specs.Shape.{head_size_of, cell_bytes_of, scale_words_of, bytes_of, words_of, width, cell_total, scale_total, up_to, limits, within, exact}
use Rattle.shapes.proofs.FormatLaws.{layout_lawful}

-- the limits, as facts
pub record Limits (s : Shape) : Type 0 where
  pub format_in : known s.format ≡ true
  pub layers_in : (1 ≤ s.layers) × (s.layers ≤ 128)
  pub heads_in : (1 ≤ s.heads) × (s.heads ≤ 64)
  pub size_in : (1 ≤ head_size_of s) × (head_size_of s ≤ 256)
  pub capacity_in : (1 ≤ s.capacity) × (s.capacity ≤ 4096)
  pub whole-groups : whole_groups_of s.format (head_size_of s) ≡ true

-- what `contains` answers of a range of numbers with both its ends
le_is : (a b : ℕ) → is_le (nat_cmp a b) ≡ leb a b
le_is a b = grind (arith, nat_tests)

pub in_range : (x : ℕ) {most : ℕ} {b : Bool} (s : RangeInclusive ℕ) → range_inclusive_start s ≡ 1 → range_inclusive_end s ≡ most → range_inclusive_exhausted s ≡ false
    → b ≡ range_inclusive_contains (λ x y. Some (nat_cmp x y)) s x → b ≡ up_to most x
in_range x {most} s e f g h = rw (h, e, f, g, le_is 1 x, le_is x most)

up-to : (most x : ℕ) → up_to most x ≡ true → (1 ≤ x) × (x ≤ most)
up-to most x h = let t = both (leb 1 x) (leb x most) h in (leb-true 1 x t.0, leb-true x most t.1)

pub limits_facts : (s : Shape) → limits s ≡ true → Limits s
unfolding limits
limits_facts s h =
    let a = both _ _ h in
    let b = both _ _ a.1 in
    let d = both _ _ b.1 in
    let e = both _ _ d.1 in
    let f = both _ _ e.1 in
    record {
      format_in = a.0;
      layers_in = up-to 128 s.layers b.0;
      heads_in = up-to 64 s.heads d.0;
      size_in = up-to 256 (head_size_of s) e.0;
      capacity_in = up-to 4096 s.capacity f.0;
      whole-groups = f.1;
    }

-- a shape inside the limits and the most cells is inside the limits, and a shape's buffers have its two totals
pub within-limits : (s : Shape) → within s ≡ true → limits s ≡ true
unfolding within
within-limits s h = (both _ _ h).0

pub exact_sizes : (s : Shape) (cells scales : ℕ) → exact s cells scales ≡ true → (cells ≡ cell_total s) × (scales ≡ scale_total s)
unfolding exact
exact_sizes s cells scales h = let t = both _ _ h in (eqb-true cells (cell_total s) t.0, eqb-true scales (scale_total s) t.1)

-- a row of up to 256 numbers has no more than 1,024 cells, and no more scale words
pub row_most : (format d : ℕ) → d ≤ 256 → (cell_bytes_of format d ≤ 1024) × (scale_words_of format d ≤ 1024)
unfolding cell_bytes_of scale_words_of
row_most format d h = let k = layout_lawful format in (k.few_bytes d h, k.few_words d h)

pub cell_bytes_most : (s : Shape) → Limits s → bytes_of s ≤ 1024
cell_bytes_most s h = (row_most s.format (head_size_of s) h.size_in.1).0

pub scale-words_most : (s : Shape) → Limits s → words_of s ≤ 1024
scale-words_most s h = (row_most s.format (head_size_of s) h.size_in.1).1

-- a position has a number, and not many
pub width_in : (s : Shape) → limits s ≡ true → (1 ≤ width s) × (width s ≤ 16384)
width_in s h = let f = limits_facts s h in (mul-le-mul f.heads_in.0 f.size_in.0, mul-le-mul f.heads_in.1 f.size_in.1)

-- no product on the way to a total is large
pub total_small : (s : Shape) (b : ℕ) → Limits s → b ≤ 1024
    → (2 * s.layers * s.heads ≤ 16384) × (2 * s.layers * s.heads * s.capacity ≤ 67108864) × (2 * s.layers * s.heads * s.capacity * b ≤ 68719476736)
total_small s b h w =
    let x : 2 * s.layers ≤ 256 = omega arith in
    let y : 2 * s.layers * s.heads ≤ 16384 = mul-le-mul x h.heads_in.1 in
    let z : 2 * s.layers * s.heads * s.capacity ≤ 67108864 = mul-le-mul y h.capacity_in.1 in
    (y, z, mul-le-mul z w)
