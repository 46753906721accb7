-- What undo rules out, in the words of the desk. Each follows from the theorem, or from the rows that a run leaves.
use mathlib.Core.Path.{◌≡◌, ap, ◌∙◌}
use mathlib.Core.List.{List}
use Prim.Native.Nat.{ℕ, ◌≤◌, ◌<◌}
use lib.ListN.{replicate}
use lib.Ieee.{Float}
use borrow.Author.Tests.{le-ltb}
use Rattle.shapes.specs.declared.Shape.{Shape}
use Rattle.shapes.specs.Shape.{bytes_of, words_of}
use Rattle.shapes.specs.Buffers.{Buffers}
use Rattle.places.specs.Place.{cells_at_of, scales_at}
use Rattle.places.proofs.PlaceLaws.{Place}
use Rattle.store.specs.Record.{length_of, good_lengths, byte_count}
use Rattle.store.specs.Calls.{Store, open_of, cached_len_of, memory_bytes_of, read_of}
use Rattle.heads.specs.Calls.{head_scores_of, head_sums_of}
use Rattle.undo.specs.Sequence.{Call}
use Rattle.undo.specs.Survivors.{one_append_each}
use Rattle.undo.specs.Undo.{SameCache, SameAnswers, after, surviving}
use Rattle.undo.proofs.SameRows.{same_rows}
use Rattle.undo.proofs.Undo.{after_renders, undo_is_real}

module _ (s : Shape) (b : Buffers) (opened : (open_of s b).reply ≡ 0) (calls : List Call) where
  -- a row that was cut leaves no byte and no scale behind
  pub cut_rows_leave_nothing : {l side h p : ℕ} → Place s l side h p → length_of (after s b calls).rec l ≤ p
      → (cells_at_of s l side h p (after s b calls).memory ≡ replicate (bytes_of s) 0) × (scales_at s l side h p (after s b calls).memory ≡ replicate (words_of s) 0)
  cut_rows_leave_nothing {l} {side} {h} {p} k w =
      let x = (after_renders s b opened calls).layer l in
      let d = le-ltb p (length_of (after s b calls).rec l) w in
      (x.cells_held.row side h p k ∙ rw d, x.scales_held.row side h p k ∙ rw d)

  module _ (b' : Buffers) (opened' : (open_of s b').reply ≡ 0) where
    -- two histories with the same survivors give the same cache
    pub same_survivors_same_cache : (calls' : List Call) → ((l : ℕ) → l < s.layers → surviving s b calls l ≡ surviving s b' calls' l)
        → SameCache (after s b calls) (after s b' calls')
    same_survivors_same_cache calls' same = same_rows (after_renders s b opened calls) (after_renders s b' opened' calls') same

    -- after an undo whatever goes by what a store holds answers as in a store that never saw the withdrawn rows
    pub withdrawn_rows_never_seen : SameAnswers (after s b calls) (after s b' (one_append_each s (surviving s b calls)))
    withdrawn_rows_never_seen A answer = ap answer (undo_is_real s b b' opened opened' calls).0

-- two stores with the same cache: all lengths and both whole buffers, and each call that reads
module _ (t u : Store) (e : SameCache t u) where
  pub same_lengths : (l : ℕ) → length_of t.rec l ≡ length_of u.rec l
  same_lengths l = ap (λ (x : Store). length_of x.rec l) e

  pub same_buffers : t.memory ≡ u.memory
  same_buffers = ap (λ (x : Store). x.memory) e

  pub same_length : (l : ℕ) → cached_len_of t.rec l ≡ cached_len_of u.rec l
  unfolding cached_len_of good_lengths
  same_length l = ap (λ (x : Store). cached_len_of x.rec l) e

  pub same_bytes : memory_bytes_of t.rec ≡ memory_bytes_of u.rec
  unfolding memory_bytes_of good_lengths byte_count
  same_bytes = ap (λ (x : Store). memory_bytes_of x.rec) e

  pub same_row : (l side h p : ℕ) (out : List ℕ) → read_of t.rec t.memory l side h p out ≡ read_of u.rec u.memory l side h p out
  unfolding read_of good_lengths
  same_row l side h p out = ap (λ (x : Store). read_of x.rec x.memory l side h p out) e

  pub same_scores : (l h : ℕ) (query : List Float) (x : Float) (out : List ℕ)
      → head_scores_of t.rec t.memory l h query x out ≡ head_scores_of u.rec u.memory l h query x out
  unfolding head_scores_of good_lengths
  same_scores l h query x out = ap (λ (v : Store). head_scores_of v.rec v.memory l h query x out) e

  pub same_sums : (l h : ℕ) (weights : List Float) (out : List ℕ)
      → head_sums_of t.rec t.memory l h weights out ≡ head_sums_of u.rec u.memory l h weights out
  unfolding head_sums_of good_lengths
  same_sums l h weights out = ap (λ (v : Store). head_sums_of v.rec v.memory l h weights out) e
