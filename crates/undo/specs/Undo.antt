-- Undo is real: what a run leaves is what its surviving rows leave in a newly opened store.
-- The paper's demand of that name; `undo_is_real` in proofs/Undo.antt proves it, and proofs/Corollaries.antt what follows from it.
use Rattle.std.specs.Prelude.{◌≡◌, List, ℕ}
use Rattle.shapes.specs.declared.Shape.{Shape}
use Rattle.shapes.specs.Buffers.{Buffers}
use Rattle.store.specs.Record.{with_seq_len}
use Rattle.store.specs.Calls.{Store, store, open_of}
use Rattle.undo.specs.Sequence.{Call, run, accepted}
use Rattle.undo.specs.Survivors.{Rows, survivors, one_append_each}

-- what a store holds: all of it but the sequence number
abbrev pub cache_of : Store → Store
cache_of t = store (with_seq_len t.rec 0) t.memory

-- the shape, all lengths and both whole buffers are the same
abbrev pub SameCache : Store → Store → Type 0
SameCache t u = cache_of t ≡ cache_of u

-- a store of shape s that was opened in memory b, after calls, and what survives of them
abbrev pub after : Shape → Buffers → List Call → Store
after s b calls = run calls (open_of s b).result

abbrev pub surviving : Shape → Buffers → List Call → ℕ → Rows
surviving s b calls = survivors s (accepted calls (open_of s b).result)

-- calls on a store that was opened in memory b, against the survivors in one that is newly opened in memory b'; each of their appends is accepted
abbrev pub UndoIsReal : Shape → Buffers → Buffers → List Call → Type 0
UndoIsReal s b b' calls =
    let again = one_append_each s (surviving s b calls) in
    SameCache (after s b calls) (after s b' again) × (accepted again (open_of s b').result ≡ again)

-- whatever goes by what a store holds answers the same
abbrev pub SameAnswers : Store → Store → Type 1
SameAnswers t u = (A : Type 0) (answer : Store → A) → answer (cache_of t) ≡ answer (cache_of u)
