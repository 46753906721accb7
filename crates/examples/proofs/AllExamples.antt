-- Every example of the list holds: one computation of all outcomes, compared with all that is said.
use mathlib.Core.Path.{◌≡◌, refl, sym, ◌∙◌}
use mathlib.Core.Bool.{not}
use mathlib.Core.List.{List, [], ◌∷◌, map}
use Prim.Native.Nat.{ℕ}
use native.Mathlib.Omega.{arith}
use lib.ListN.{length}
use lib.Ieee.{lt, eq, add, div, mul, of_bits, to_bits, of_int}
use Rattle.lists.specs.Chunks.{tab, joined, at, each, turns, some}
use Rattle.numbers.specs.Word.{bf16}
use Rattle.numbers.specs.Scale.{magnitude, larger, largest_from, largest, scale_of}
use Rattle.numbers.specs.Code.{nearest_whole_of, clamped, code8, code4, less8, read4}
use Rattle.groups.specs.Group.{packed, half, unpacked}
use Rattle.replies.specs.Outcome.{◌when◌, lowest, outcome}
use Rattle.replies.proofs.Refusals.{refused_before}
use Rattle.shapes.specs.Format.{layouts, known, whole_groups_of}
use Rattle.shapes.specs.Shape.{cell_bytes_of, scale_words_of, total, cell_total, scale_total, limits, within, exact, room_refusals}
use Rattle.shapes.specs.declared.Shape.{Shape}
use Rattle.shapes.specs.Buffers.{Buffers}
use Rattle.lists.specs.Bytes.{little}
use Rattle.rows.specs.Row.{codings, f32_cells, bf16_cells, int8_cells, int8_scales, int4_cells, int4_scales, row_cells, row_scales}
use Rattle.buffers.specs.Write.{put, written_side, written}
use Rattle.buffers.specs.Calls.{appended}
use Rattle.store.specs.Record.{good_lengths}
use Rattle.store.specs.Calls.{open_of, append_of}
use Rattle.attention.specs.Order.{summed, group_dot, int4_dot, scorings, has_scores_of, row_dot, row_term, scores_of, sums_of}
use Rattle.heads.specs.Calls.{scores_at, sums_at, head_scores_of, head_sums_of}
use Rattle.examples.specs.Examples.{answer, Example, P, Opened, Outside, AllHold, examples}

got : Example → List ℕ
got (P n asked said) = answer asked
got (Opened n s reply) = lowest (room_refusals s (cell_total s) (scale_total s)) ∷ []
got (Outside n s) = lowest ((1 when not (within s)) ∷ []) ∷ []

wanted : Example → List ℕ
wanted (P n asked said) = said
wanted (Opened n s reply) = reply ∷ []
wanted (Outside n s) = 1 ∷ []

-- of the buffers an open's reply goes by the lengths alone
open_reply : (s : Shape) (b : Buffers) (cells scales : ℕ) → length b.cells ≡ cells → length b.scales ≡ scales → (open_of s b).reply ≡ lowest (room_refusals s cells scales)
unfolding open_of outcome
open_reply s b cells scales c d = rw (c, d)

-- and outside the limits by nothing of them
outside_reply : (s : Shape) (b : Buffers) → lowest ((1 when not (within s)) ∷ []) ≡ 1 → (open_of s b).reply ≡ 1
outside_reply s b e = open_reply s b _ _ refl refl ∙ refused_before ((1 when not (within s)) ∷ []) _ (λ z. omega (arith, sym e ∙ z)) ∙ e

one_by_one : (es : List Example) → map got es ≡ map wanted es → AllHold es
unfolding got wanted
one_by_one [] h = tt
one_by_one (P n asked said ∷ es) h = (cc, one_by_one es (cc))
one_by_one (Opened n s reply ∷ es) h = ((λ b c d. open_reply s b (cell_total s) (scale_total s) c d ∙ cc), one_by_one es (cc))
one_by_one (Outside n s ∷ es) h = ((λ b. outside_reply s b (cc)), one_by_one es (cc))

pub examples_hold : AllHold examples
unfolding examples answer got wanted tab joined at each turns some bf16 magnitude larger largest_from largest scale_of nearest_whole_of clamped code8 code4 read4 less8 packed half unpacked lt eq div mul of_bits to_bits of_int lowest outcome layouts known whole_groups_of codings cell_bytes_of scale_words_of total limits within exact little f32_cells bf16_cells int8_cells int8_scales int4_cells int4_scales row_cells row_scales put written_side written appended good_lengths open_of append_of add summed group_dot int4_dot scorings has_scores_of row_dot row_term scores_of sums_of scores_at sums_at head_scores_of head_sums_of
examples_hold = one_by_one examples refl
