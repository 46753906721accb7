-- Calls in a sequence: the paper's section Calls. What a call does is said by the definition that its own statement cites.
use Rattle.std.specs.Prelude.{ℕ, Bool, cond, List, [], ◌∷◌, eqb}
use Rattle.replies.specs.Outcome.{Outcome}
use Rattle.store.specs.Calls.{Store, store, append_of, truncate_of, advance_of}

-- any call on an open store
pub data Call : Type 0 where
  -- a layer, keys, values
  append : ℕ → List ℕ → List ℕ → Call
  -- a layer, t
  truncate : ℕ → ℕ → Call
  -- a count
  advance : ℕ → Call
  -- a call that reads, by its reply: any function of the store, such as λ t. (read_of t.rec t.memory l side h p out).reply,
  -- and likewise by cached_len_of, memory_bytes_of, head_scores_of and head_sums_of
  reads : (Store → ℕ) → Call

-- what a call answers and leaves: an advance has no buffers, and reading leaves the store
unfoldable pub does : Call → Store → Outcome Store
does (append l keys values) t = append_of t.rec t.memory l keys values
does (truncate l n) t = truncate_of t.rec t.memory l n
does (advance count) t =
    let o = advance_of t.rec count in
    record { reply = o.reply; result = store o.result t.memory }
does (reads reply) t = record { reply = reply t; result = t }

-- calls one after the other, from store t: what they leave, and which of them are accepted
unfoldable pub run : List Call → Store → Store
run [] t = t
run (c ∷ calls) t = run calls (does c t).result

-- a call counts where it was done
abbrev pub if_accepted : Bool → Call → List Call → List Call
if_accepted done c others = cond done (c ∷ others) others

unfoldable pub accepted : List Call → Store → List Call
accepted [] t = []
accepted (c ∷ calls) t = if_accepted (eqb (does c t).reply 0) c (accepted calls (does c t).result)
