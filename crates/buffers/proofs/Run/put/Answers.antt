-- The positions passed have their rows, and each turn writes some more in every head.
use mathlib.Core.Path.{◌≡◌, refl, ◌∙◌}
use mathlib.Core.List.{List}
use Prim.Native.Nat.{ℕ, ◌+◌, ◌-◌, ◌*◌, ◌≤◌, ◌<◌}
use native.Mathlib.Omega.{arith}
use lib.ListN.{length}
use Rattle.lists.specs.Chunks.{part}
use Rattle.lists.proofs.Part.{part_length}
use Rattle.shapes.specs.declared.Shape.{Shape}
use Rattle.shapes.specs.Shape.{bytes_of, words_of, width}
use Rattle.shapes.proofs.ShapeLaws.{width_in}
use Rattle.rows.specs.Row.{row_cells, row_scales}
use Rattle.buffers.specs.Fits.{RunInside, IsRoom}
use Rattle.buffers.proofs.LoopLaws.{side_below, room_kept}
use Rattle.buffers.proofs.RunLaws.{cell_rows, scale_rows}
use Rattle.buffers.proofs.PositionLaws.{next_in, Known, no_positions, position_turn, positions-done}
use Rattle.buffers.proofs.Run.put.Goals as goal

-- what the loop knows of each buffer
module _ {s : Shape} {l side p n cells scales : ℕ} (k : RunInside s l p n) (u : side < 2) (r : IsRoom s cells scales) {numbers : List ℕ} (q : length numbers ≡ n * width s) where
  cells-known : (x : List ℕ) → length x ≡ cells → Known (bytes_of s) s l side p n (row_cells s.format) numbers x
  cells-known x e =
      let sized = cell_rows _ _ k.in-limits _ q in
      record { for = record { layer = k.layer_in; side_in = u; span = k.span; sized = sized }; whole = e ∙ r.cell_size }

  words-known : (x : List ℕ) → length x ≡ scales → Known (words_of s) s l side p n (row_scales s.format) numbers x
  words-known x e =
      let sized = scale_rows _ _ k.in-limits _ q in
      record { for = record { layer = k.layer_in; side_in = u; span = k.span; sized = sized }; whole = e ∙ r.scale_size }

-- the numbers that are lent are as many as that
lent_size : (a b : ℕ) (numbers : List ℕ) → a + b ≤ length numbers → length (part a (a + b - a) numbers) ≡ b
lent_size a b numbers w =
    let d : a + b - a ≡ b = omega arith in
    part_length a (a + b - a) numbers (omega arith) ∙ d

pub overflow_mul-width : goal.overflow_mul-width
overflow_mul-width c = omega (arith, width_in c.args.self.shape c.args.self.inside.in-limits)

pub loop-j-init : goal.loop-j-init
loop-j-init c =
    let a = c.args in (
      no_positions _ _ _ _ _ _ (row_cells a.self.shape.format) a.numbers.now _,
      no_positions _ _ _ _ _ _ (row_scales a.self.shape.format) a.numbers.now _,
    )

pub invariant_of-next : goal.invariant_of-next
invariant_of-next c =
    let a = c.args.self.inside in
    let w = next_in c.requires.numbers_len c.min-k.ensures c.loop-j-test.true in
    record { inside = record { in-limits = a.in-limits; layer_in = a.layer_in; span = omega (arith, a.span, w) } }

pub put_heads-requires : goal.put_heads-requires
put_heads-requires c =
    let w = next_in c.requires.numbers_len c.min-k.ensures c.loop-j-test.true in
    record {
      room = room_kept c.requires.room c.loop-j.auto.cells c.loop-j.auto.scales;
      numbers_len = lent_size _ _ c.args.numbers.now w.numbers_in;
    }

pub loop-j-preserved : goal.loop-j-preserved
loop-j-preserved c =
    let a = c.requires in
    let l = c.loop-j.invariant in
    let w = (next_in a.numbers_len c.min-k.ensures c.loop-j-test.true).passed in
    let k : 8 ≡ c.min-k.result = omega arith in
    rw k (
      position_turn (cells-known c.args.self.inside (side_below c.args.side) a.room a.numbers_len c.args.cells.now refl) _ l.0 w refl c.put_heads.ensures.cells,
      position_turn (words-known c.args.self.inside (side_below c.args.side) a.room a.numbers_len c.args.scales.now refl) _ l.1 w refl c.put_heads.ensures.scales,
    )

pub returns : goal.returns
returns c =
    let a = c.requires in
    let l = c.loop-j.invariant in
    record {
      cells = positions-done (cells-known c.args.self.inside (side_below c.args.side) a.room a.numbers_len c.args.cells.now refl) l.0 (omega arith);
      scales = positions-done (words-known c.args.self.inside (side_below c.args.side) a.room a.numbers_len c.args.scales.now refl) l.1 (omega arith);
    }

-- the last turn, which writes the positions that are left
pub returns-2 : goal.returns-2
returns-2 c =
    let a = c.requires in
    let l = c.loop-j.invariant in
    let w = (next_in a.numbers_len c.min-k.ensures c.loop-j-test.true).passed in
    let x = cells-known c.args.self.inside (side_below c.args.side) a.room a.numbers_len c.args.cells.now refl in
    let y = words-known c.args.self.inside (side_below c.args.side) a.room a.numbers_len c.args.scales.now refl in
    record {
      cells = positions-done x (position_turn x _ l.0 w refl c.put_heads.ensures.cells) (omega (arith, c.min-k.ensures));
      scales = positions-done y (position_turn y _ l.1 w refl c.put_heads.ensures.scales) (omega (arith, c.min-k.ensures));
    }

pub slice_bounds-put_heads-end : goal.slice_bounds-put_heads-end
slice_bounds-put_heads-end c = (next_in c.requires.numbers_len c.min-k.ensures c.loop-j-test.true).numbers_in
