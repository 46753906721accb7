-- The rows of appended numbers: each position has its numbers, and each head's row has B cells and S scale words.
-- Each holds since the numbers are whole positions, and by the lengths of a row.
use mathlib.Core.Path.{◌≡◌, ◌∙◌}
use mathlib.Core.Bool.{Bool, true, false, cond}
use mathlib.Core.List.{List}
use Prim.Native.Nat.{ℕ, ◌+◌, ◌-◌, ◌*◌, ◌/◌, ◌%◌, ◌≤◌, ◌<◌}
use native.Mathlib.Nat.{add-mul, add_assoc, div-add-mod'}
use native.Mathlib.Omega.{arith}
use lib.Dec.{eqb}
use lib.ListN.{length}
use borrow.Author.Tests.{eqb-true}
use Rattle.lists.specs.Chunks.{part}
use Rattle.lists.proofs.Part.{room, room_in, part-part, part_length}
use Rattle.replies.proofs.Flags.{both}
use Rattle.shapes.specs.declared.Shape.{Shape}
use Rattle.shapes.specs.Shape.{head_size_of, bytes_of, words_of, width, positions, limits}
use Rattle.shapes.proofs.ShapeLaws.{limits_facts}
use Rattle.rows.proofs.RowLaws.{row_cells-length, row_scales-length}
use Rattle.buffers.specs.Calls.{head_numbers, side_of, cell_row_of, scale_row, whole_rows}
use Rattle.buffers.proofs.WriteLaws.{SideRows, LayerRows}

-- head h of position i lies within n positions
pub numbers_in : (s : Shape) {i n h : ℕ} → i < n → h < s.heads → i * width s + h * head_size_of s + head_size_of s ≤ n * width s
numbers_in s {h = h} v w = omega (arith, room_in (width s) v (room (head_size_of s) w))

-- its numbers, lent as `&numbers[a..e]`
pub run_lent : (s : Shape) (numbers : List ℕ) (h i : ℕ) {e : ℕ} → i * width s + h * head_size_of s + head_size_of s ≡ e
    → part (i * width s + h * head_size_of s) (e - (i * width s + h * head_size_of s)) numbers ≡ head_numbers s numbers h i
run_lent s numbers h i {e} q = let d : e - (i * width s + h * head_size_of s) ≡ head_size_of s = omega arith in rw d

-- the numbers of k positions from position j on, lent the same way, are positions of their own
pub position-numbers : (s : Shape) (numbers : List ℕ) (j k h i : ℕ) {e : ℕ} → h < s.heads → i < k → j * width s + k * width s ≡ e
    → head_numbers s (part (j * width s) (e - j * width s) numbers) h i ≡ head_numbers s numbers h (j + i)
position-numbers s numbers j k h i {e} w v q =
    let d : e - j * width s ≡ k * width s = omega arith in
    rw (
      d,
      part-part (j * width s) (k * width s) (i * width s + h * head_size_of s) (head_size_of s) numbers (numbers_in s v w),
      add-mul j i (width s),
      add_assoc,
    )

-- keys and values that have n numbers each have n on either side
either : (t : Bool) (keys values : List ℕ) {n : ℕ} → length keys ≡ n → length values ≡ n → length (cond t keys values) ≡ n
either true keys values k v = k
either false keys values k v = v

pub side_size : (keys values : List ℕ) {n : ℕ} → length keys ≡ n → length values ≡ n → (side : ℕ) → length (side_of keys values side) ≡ n
side_size keys values k v side = either (eqb side 0) keys values k v

-- what the test of whole positions says of both
pub whole-rows : (s : Shape) (keys values : ℕ) → whole_rows s keys values ≡ true
    → (keys ≡ positions s keys * width s) × (values ≡ positions s keys * width s)
whole-rows s keys values h =
    let x = both (eqb (keys % width s) 0) (eqb values keys) h in
    let k : keys ≡ keys / width s * width s = omega (arith, div-add-mod' keys (width s), eqb-true (keys % width s) 0 x.0) in
    (k, eqb-true values keys x.1 ∙ k)

module _ (s : Shape) (n : ℕ) (inside : limits s ≡ true) where
  module _ (numbers : List ℕ) (e : length numbers ≡ n * width s) where
    head-length : (h i : ℕ) → h < s.heads → i < n → length (head_numbers s numbers h i) ≡ head_size_of s
    head-length h i w v =
        part_length (i * width s + h * head_size_of s) (head_size_of s) numbers (omega (arith, numbers_in s v w))

    pub cell_rows : SideRows (bytes_of s) s n (cell_row_of s numbers)
    cell_rows h w i v =
        let d = head-length h i w v in
        row_cells-length s.format (head_numbers s numbers h i) (rw d (limits_facts s inside).whole-groups) ∙ rw d

    pub scale_rows : SideRows (words_of s) s n (scale_row s numbers)
    scale_rows h w i v = row_scales-length s.format (head_numbers s numbers h i) ∙ rw (head-length h i w v)

  -- of both sides
  module _ (keys values : List ℕ) (k : length keys ≡ n * width s) (v : length values ≡ n * width s) where
    pub cell_layer : LayerRows (bytes_of s) s n (λ side. cell_row_of s (side_of keys values side))
    cell_layer side w = cell_rows (side_of keys values side) (side_size keys values k v side)

    pub scale_layer : LayerRows (words_of s) s n (λ side. scale_row s (side_of keys values side))
    scale_layer side w = scale_rows (side_of keys values side) (side_size keys values k v side)
