-- Undo is real: a run, and one append of its survivors for each layer of a newly opened store, leave the same rows, and the rows say the cache.
use mathlib.Core.Path.{◌≡◌, sym}
use mathlib.Core.List.{List}
use Rattle.shapes.specs.declared.Shape.{Shape}
use Rattle.shapes.specs.Buffers.{Buffers}
use Rattle.store.specs.Calls.{open_of}
use Rattle.undo.specs.Sequence.{Call, accepted}
use Rattle.undo.specs.Survivors.{one_append_each}
use Rattle.undo.specs.Undo.{after, surviving, UndoIsReal}
use Rattle.undo.proofs.StoreLaws.{Renders, opened_renders}
use Rattle.undo.proofs.RunLaws.{run_renders}
use Rattle.undo.proofs.SameRows.{same_rows}
use Rattle.undo.proofs.AppendLaws.{own_rows, each-accepted}

-- after calls a store that was opened has the rows that survive, and nothing else
pub after_renders : (s : Shape) (b : Buffers) → (open_of s b).reply ≡ 0 → (calls : List Call) → Renders s (after s b calls) (surviving s b calls)
after_renders s b opened calls = run_renders calls (opened_renders s b opened)

-- the theorem: a shape that opens, any memory, any calls
pub undo_is_real : (s : Shape) (b b' : Buffers) → (open_of s b).reply ≡ 0 → (open_of s b').reply ≡ 0 → (calls : List Call) → UndoIsReal s b b' calls
undo_is_real s b b' opened opened' calls =
    let of = surviving s b calls in
    let again = one_append_each s of in
    let x = after_renders s b opened calls in
    let taken : accepted again (open_of s b').result ≡ again = each-accepted s of x (opened_renders s b' opened') in
    (same_rows x (after_renders s b' opened' again) (λ l w. rw taken (sym (own_rows s of x l w))), taken)
