-- A row that is read lies in both buffers, and reads as what stands there.
-- Each holds since no refusal of the call applies.
use mathlib.Core.Path.{◌≡◌, refl, ◌∙◌}
use mathlib.Core.Bool.{Bool}
use mathlib.Core.List.{List, ◌++◌}
use Prim.Native.Nat.{ℕ}
use native.Mathlib.Nat.{one-mul}
use native.Mathlib.Omega.{arith}
use lib.ListN.{length}
use borrow.Author.Tests.{ltb-true, eqb-true, not-false}
use Rattle.replies.specs.Outcome.{lowest}
use Rattle.replies.specs.Tried.{tells}
use Rattle.replies.proofs.Flags.{both}
use Rattle.shapes.specs.Buffers.{buffers}
use Rattle.places.specs.declared.Span.{Span}
use Rattle.places.specs.Span.{span_of}
use Rattle.places.proofs.LentLaws.{Inside, lent, lent_cells, lent_scales, lent_row}
use Rattle.decode.specs.Decode.{get_row_of}
use Rattle.decode.proofs.DecodeLaws.{get_left}
use Rattle.rows.proofs.FitLaws.{shape_fits}
use Rattle.store.specs.declared.Record.{Record}
use Rattle.store.specs.Record.{length_of}
use Rattle.store.specs.Calls.{lent_refusals, read_refusals, row_at}
use Rattle.store.proofs.AcceptLaws.{layer_there, none_further, BlockIn, block_there, block_lent}

pub row_there : (r : Record) (l side h p out cells scales : ℕ)
    → lowest (lent_refusals r cells scales ++ read_refusals r.shape l (length_of r l) side h p out) ≡ 0 → BlockIn r l side h p 1 out cells scales
row_there r l side h p out cells scales z =
    let t = none_further r l cells scales _ refl z in
    let w = both _ _ (not-false _ t.0) in
    let q = ltb-true p (length_of r l) (not-false _ t.1.1.0) in
    block_there (layer_there r l cells scales _ refl z) (ltb-true side 2 w.1) (ltb-true h _ w.0) (omega arith) (eqb-true out _ (not-false _ t.1.0))

-- and so its part of each
pub row_inside : (r : Record) (l side h p out cells scales : ℕ) {x : Span}
    → lowest (lent_refusals r cells scales ++ read_refusals r.shape l (length_of r l) side h p out) ≡ 0
    → x ≡ span_of r.shape l side h p 1 → Inside x cells scales
row_inside r l side h p out cells scales z s = block_lent (row_there r l side h p out cells scales z) s

pub row_read : {r : Record} {l side h p : ℕ} {x : Span} {done : Bool} {y : List ℕ} (cells scales out : List ℕ)
    → BlockIn r l side h p 1 (length out) (length cells) (length scales) → x ≡ span_of r.shape l side h p 1
    → tells done y ≡ get_row_of r.shape.format (lent x cells scales) out
    → y ≡ row_at r.shape l side h p (buffers cells scales)
unfolding row_at
row_read {r} cells scales out k e o =
    let c = lent_cells k.rows_in e cells scales k.sizes.0 in
    let w = lent_scales k.rows_in e cells scales k.sizes.1 in
    let t = lent_row k.rows_in e cells scales in
    get_left _ _ out (shape_fits r.shape k.rows_in.in-limits k.size (rw one-mul at c) (rw one-mul at w)) o
    ∙ rw (t.0, t.1, k.size)
