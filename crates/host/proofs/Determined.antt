-- Whatever a call of the boundary may answer and leave under its statement, it answers and leaves one thing: reply, all 134 words, both buffers, count and output.
-- A reply is its number here, and 134 words are determined by the record that they stand for.
use mathlib.Core.Path.{◌≡◌, sym, ap, ◌∙◌}
use mathlib.Core.List.{List}
use Prim.Native.Nat.{ℕ}
use lib.ListN.{length}
use lib.Ieee.{Float}
use Rattle.groups.specs.Group.{group_reply, pack_into, unpack_into}
use Rattle.replies.specs.Outcome.{Outcome}
use Rattle.shapes.specs.declared.Need.{Need}
use Rattle.shapes.specs.declared.Shape.{Shape}
use Rattle.shapes.specs.Buffers.{Buffers}
use Rattle.store.specs.declared.Record.{Record}
use Rattle.store.specs.Calls.{Store, open_of, append_of, truncate_of, advance_of, cached_len_of, memory_bytes_of, read_of}
use Rattle.heads.specs.Calls.{head_scores_of, head_sums_of}
use Rattle.host.specs.Words.{record_from, need, need_replied, seen, replied}
use Rattle.host.proofs.WordLaws.{same-words}

-- one reply and one thing replied: a count, a row, scores, sums
abbrev pub OneTold : {A : Type 0} → Outcome A → Type 0
OneTold {A} o = (n n' : ℕ) (x x' : A) → replied n x ≡ o → replied n' x' ≡ o → (n ≡ n') × (x ≡ x')

-- one reply and two lengths
abbrev pub OneNeed : Outcome Need → Type 0
OneNeed o = (n n' c c' s s' : ℕ) → replied n (need c s) ≡ o → replied n' (need c' s') ≡ o → (n ≡ n') × (c ≡ c') × (s ≡ s')

-- one reply and the same 134 words
abbrev pub OneWords : Outcome Record → Type 0
OneWords o = (n n' : ℕ) (w w' : List ℕ) → length w ≡ 134 → length w' ≡ 134 → replied n (record_from w) ≡ o → replied n' (record_from w') ≡ o → (n ≡ n') × (w ≡ w')

-- and the same bytes and words in both buffers
abbrev pub OneSeen : Outcome Store → Type 0
OneSeen o =
    (n n' : ℕ) (w w' c c' s s' : List ℕ) → length w ≡ 134 → length w' ≡ 134 → seen n w c s ≡ o → seen n' w' c' s' ≡ o → (n ≡ n') × (w ≡ w') × (c ≡ c') × (s ≡ s')

one_told : {A : Type 0} (o : Outcome A) → OneTold o
one_told {A} o n n' x x' e e' =
    let q = e ∙ sym e' in
    (ap (λ (o : Outcome A). o.reply) q, ap (λ (o : Outcome A). o.result) q)

one_need : (o : Outcome Need) → OneNeed o
one_need o n n' c c' s s' e e' =
    let q = one_told o n n' (need c s) (need c' s') e e' in
    (q.0, ap (λ (x : Need). x.cells) q.1, ap (λ (x : Need). x.scales) q.1)

one_words : (o : Outcome Record) → OneWords o
one_words o n n' w w' l l' e e' =
    let q = one_told o n n' (record_from w) (record_from w') e e' in
    (q.0, same-words w w' l l' q.1)

one_seen : (o : Outcome Store) → OneSeen o
one_seen o n n' w w' c c' s s' l l' e e' =
    let q = one_told o n n' _ _ e e' in (
      q.0,
      same-words w w' l l' (ap (λ (x : Store). x.rec) q.1),
      ap (λ (x : Store). x.memory.cells) q.1,
      ap (λ (x : Store). x.memory.scales) q.1,
    )

-- each call
pub kv_need_law : (s : Shape) → OneNeed (need_replied s)
kv_need_law s = one_need (need_replied s)

pub kv_open_law : (s : Shape) (b : Buffers) → OneSeen (open_of s b)
kv_open_law s b = one_seen (open_of s b)

module _ (r : Record) where
  pub kv_append_law : (b : Buffers) (l : ℕ) (keys values : List ℕ) → OneSeen (append_of r b l keys values)
  kv_append_law b l keys values = one_seen (append_of r b l keys values)

  pub kv_truncate_law : (b : Buffers) (l t : ℕ) → OneSeen (truncate_of r b l t)
  kv_truncate_law b l t = one_seen (truncate_of r b l t)

  pub kv_advance_law : (count : ℕ) → OneWords (advance_of r count)
  kv_advance_law count = one_words (advance_of r count)

  pub kv_cached_len_law : (l : ℕ) → OneTold (cached_len_of r l)
  kv_cached_len_law l = one_told (cached_len_of r l)

  pub kv_memory_bytes_law : OneTold (memory_bytes_of r)
  kv_memory_bytes_law = one_told (memory_bytes_of r)

  pub kv_read_row_law : (b : Buffers) (l side h p : ℕ) (out : List ℕ) → OneTold (read_of r b l side h p out)
  kv_read_row_law b l side h p out = one_told (read_of r b l side h p out)

  pub kv_scores_law : (b : Buffers) (l h : ℕ) (query : List Float) (x : Float) (out : List ℕ) → OneTold (head_scores_of r b l h query x out)
  kv_scores_law b l h query x out = one_told (head_scores_of r b l h query x out)

  pub kv_sums_law : (b : Buffers) (l h : ℕ) (weights : List Float) (out : List ℕ) → OneTold (head_sums_of r b l h weights out)
  kv_sums_law b l h weights out = one_told (head_sums_of r b l h weights out)

-- the two calls on a group
abbrev OneGroup : ℕ → List ℕ → Type 0
OneGroup reply after = (n n' : ℕ) (l l' : List ℕ) → n ≡ reply → n' ≡ reply → l ≡ after → l' ≡ after → (n ≡ n') × (l ≡ l')

pub kv_pack_law : (numbers bytes : List ℕ) (scale : Float) → OneGroup (group_reply numbers bytes) (pack_into numbers scale bytes)
kv_pack_law numbers bytes scale n n' l l' p p' q q' = (p ∙ sym p', q ∙ sym q')

pub kv_unpack_law : (bytes numbers : List ℕ) (scale : Float) → OneGroup (group_reply numbers bytes) (unpack_into bytes scale numbers)
kv_unpack_law bytes numbers scale n n' l l' p p' q q' = (p ∙ sym p', q ∙ sym q')

-- the calls that answer one number: scales, codes, what a code reads as, BF16
pub kv_number_law : {A : Type 0} (answer x x' : A) → x ≡ answer → x' ≡ answer → x ≡ x'
kv_number_law answer x x' e e' = e ∙ sym e'
