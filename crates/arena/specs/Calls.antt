-- Each call in the room at hand, from which a shape is lent exactly its need: the paper's Room at hand, under Call file.
use Rattle.std.specs.Prelude.{ℕ, cond, List, ◌++◌, eqb, take, drop}
use Rattle.replies.specs.Outcome.{Outcome}
use Rattle.shapes.specs.Shape.{need_of}
use Rattle.shapes.specs.declared.Shape.{Shape}
use Rattle.shapes.specs.Buffers.{Buffers, buffers}
use Rattle.store.specs.Calls.{Store, store, open_of, append_of, truncate_of}

-- what a shape is lent of the room at hand: its need, or all where there is less
abbrev pub lent_to : Shape → Buffers → Buffers
lent_to s room = buffers (take (need_of s).cells room.cells) (take (need_of s).scales room.scales)

-- the room at hand with that part given back
abbrev pub given_back_of : Shape → Buffers → Buffers → Buffers
given_back_of s part room =
    buffers (part.cells ++ drop (need_of s).cells room.cells) (part.scales ++ drop (need_of s).scales room.scales)

-- a call on what a shape is lent
abbrev pub in_room : Shape → Buffers → (Buffers → Outcome Store) → Outcome Store
in_room s room call =
    let o = call (lent_to s room) in
    record { reply = o.reply; result = store o.result.rec (given_back_of s o.result.memory room) }

-- open: refused, it keeps the store that was there
unfoldable pub open_in : Shape → Store → Outcome Store
open_in s cache =
    let o = in_room s cache.memory (open_of s) in
    record { reply = o.reply; result = cond (eqb o.reply 0) o.result cache }

unfoldable pub append_in_of : ℕ → List ℕ → List ℕ → Store → Outcome Store
append_in_of l keys values cache = in_room cache.rec.shape cache.memory (λ b. append_of cache.rec b l keys values)

unfoldable pub truncate_in_of : ℕ → ℕ → Store → Outcome Store
truncate_in_of l t cache = in_room cache.rec.shape cache.memory (λ b. truncate_of cache.rec b l t)
