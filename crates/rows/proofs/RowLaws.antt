-- The lengths of a row's cells, scale words and numbers, in every format.
-- Each holds line by line of the table, by the lengths of tables and of joined lists.
use mathlib.Core.Path.{◌≡◌, refl}
use mathlib.Core.Bool.{true}
use mathlib.Core.List.{List}
use Prim.Native.Nat.{ℕ, ◌*◌, ◌/◌, ◌%◌}
use native.Mathlib.Omega.{arith}
use lib.ListN.{length, get_or, length-replicate}
use borrow.Author.Tests.{eqb-true}
use Rattle.lists.specs.Bytes.{little}
use Rattle.lists.specs.Chunks.{part, joined}
use Rattle.lists.proofs.Bytes.{little-length}
use Rattle.lists.proofs.Tab.{tab-length}
use Rattle.lists.proofs.Joined.{joined_length}
use Rattle.numbers.specs.Word.{float, bf16}
use Rattle.groups.specs.Group.{packed, unpacked}
use Rattle.groups.proofs.GroupLaws.{packed-length, unpacked-length}
use Rattle.shapes.specs.Format.{Layout, layouts, layout_of, no_layout, f32_layout, bf16_layout, int8_layout, int4_layout, whole_groups_of}
use Rattle.shapes.specs.Shape.{cell_bytes_of, scale_words_of}
use Rattle.shapes.proofs.FormatLaws.{at_every}
use Rattle.rows.specs.Row.{group, group_scale_of, f32_cells, f32_numbers, bf16_cells, bf16_numbers, int8_cells, int8_scales, int8_numbers}
use Rattle.rows.specs.Row.{int4_cells, int4_scales, int4_numbers, row_cells, row_scales, row_numbers}
use Rattle.rows.specs.Row.{Coding, codings, coding_of, no_coding, f32_coding, bf16_coding, int8_coding, int4_coding}

-- a coding keeps to a layout
pub record LawfulCoding (f : Layout) (c : Coding) : Type 0 where
  pub cells-length : (run : List ℕ) → length run % f.group ≡ 0 → length (c.cells run) ≡ f.bytes (length run)
  pub scales-length : (run : List ℕ) → length (c.scales run) ≡ f.words (length run)
  pub numbers-length : (n : ℕ) (cells scales : List ℕ) → n % f.group ≡ 0 → length (c.numbers n cells scales) ≡ n

joined-little : (k n : ℕ) (f : ℕ → ℕ) → length (joined n (λ d. little k (f d))) ≡ n * k
joined-little k n f = joined_length k n (λ d. little k (f d)) (λ i h. little-length k (f i))

f32_lawful : LawfulCoding f32_layout f32_coding
unfolding f32_cells f32_numbers
f32_lawful =
    record {
      cells-length = λ run h. omega (arith, joined-little 4 (length run) (λ d. get_or run d 0));
      scales-length = λ run. refl;
      numbers-length = λ n cells scales h. tab-length n _;
    }

bf16_lawful : LawfulCoding bf16_layout bf16_coding
unfolding bf16_cells bf16_numbers
bf16_lawful =
    record {
      cells-length = λ run h. omega (arith, joined-little 2 (length run) (λ d. bf16 (get_or run d 0)));
      scales-length = λ run. refl;
      numbers-length = λ n cells scales h. tab-length n _;
    }

int8_lawful : LawfulCoding int8_layout int8_coding
unfolding int8_cells int8_scales int8_numbers
int8_lawful =
    record {
      cells-length = λ run h. tab-length (length run) _;
      scales-length = λ run. refl;
      numbers-length = λ n cells scales h. tab-length n _;
    }

int4_lawful : LawfulCoding int4_layout int4_coding
unfolding int4_cells int4_scales int4_numbers
int4_lawful =
    record {
      cells-length = λ run h. omega (arith, joined_length 16 (length run / 32) (λ g. packed (group g run) (group_scale_of g run)) (λ g b. packed-length _ _));
      scales-length = λ run. tab-length (length run / 32) _;
      numbers-length =
          λ n cells scales h. omega (arith, joined_length 32 (n / 32) (λ g. unpacked (part (g * 16) 16 cells) (float (get_or scales g 0))) (λ g b. unpacked-length _ _));
    }

none_lawful : LawfulCoding no_layout no_coding
none_lawful = record { cells-length = λ run h. refl; scales-length = λ run. refl; numbers-length = λ n cells scales h. length-replicate n 0 }

-- at every number
coding_lawful : (format : ℕ) → LawfulCoding (layout_of format) (coding_of format)
unfolding layouts codings
coding_lawful = at_every LawfulCoding layouts codings no_layout no_coding (f32_lawful, (bf16_lawful, (int8_lawful, (int4_lawful, tt)))) none_lawful

pub row_cells-length : (format : ℕ) (run : List ℕ) → whole_groups_of format (length run) ≡ true
    → length (row_cells format run) ≡ cell_bytes_of format (length run)
unfolding row_cells cell_bytes_of whole_groups_of
row_cells-length format run h = (coding_lawful format).cells-length run (eqb-true _ 0 h)

pub row_scales-length : (format : ℕ) (run : List ℕ) → length (row_scales format run) ≡ scale_words_of format (length run)
unfolding row_scales scale_words_of
row_scales-length format run = (coding_lawful format).scales-length run

pub row_numbers-length : (format n : ℕ) (cells scales : List ℕ) → whole_groups_of format n ≡ true
    → length (row_numbers format n cells scales) ≡ n
unfolding row_numbers whole_groups_of
row_numbers-length format n cells scales h = (coding_lawful format).numbers-length n cells scales (eqb-true _ 0 h)
