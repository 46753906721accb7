-- Each call's reply is n exactly when the condition of n holds and that of no lower number does.
-- Each holds by the law of the lowest refusal: the numbers of each call rise.
use mathlib.Core.Path.{◌≡◌, refl}
use mathlib.Core.List.{List, ◌++◌}
use mathlib.Core.Logic.{◌↔◌}
use Prim.Native.Nat.{ℕ}
use lib.ListN.{length}
use Rattle.replies.specs.Outcome.{Applies, outcome}
use Rattle.replies.proofs.Refusals.{exactly}
use Rattle.shapes.specs.declared.Shape.{Shape}
use Rattle.shapes.specs.Buffers.{Buffers}
use Rattle.store.specs.declared.Record.{Record}
use Rattle.store.specs.Record.{length_of}
use Rattle.store.specs.Calls.{buffer_refusals, record_refusals, store_refusals, append_refusals, remove_refusals, read_refusals, sequence_refusal, open_of, append_of, truncate_of, advance_of, cached_len_of, memory_bytes_of, read_of}

-- open: 1, 2
pub open_exactly : (s : Shape) (b : Buffers) (n : ℕ) → ((open_of s b).reply ≡ n) ↔ Applies n (buffer_refusals s b)
unfolding open_of outcome
open_exactly s b n = exactly 0 n (buffer_refusals s b) refl

module _ (r : Record) where
  -- advance: 1, 3, 10
  pub advance_exactly : (count n : ℕ)
      → ((advance_of r count).reply ≡ n) ↔ Applies n (record_refusals r ++ sequence_refusal r count)
  unfolding advance_of outcome
  advance_exactly count n = exactly 0 n _ refl

  -- cached length: 1, 3, 4
  pub cached_len_exactly : (l n : ℕ) → ((cached_len_of r l).reply ≡ n) ↔ Applies n (record_refusals r ++ remove_refusals r.shape l)
  unfolding cached_len_of outcome
  cached_len_exactly l n = exactly 0 n _ refl

  -- byte count: 1, 3
  pub memory-bytes_exactly : (n : ℕ) → ((memory_bytes_of r).reply ≡ n) ↔ Applies n (record_refusals r)
  unfolding memory_bytes_of outcome
  memory-bytes_exactly n = exactly 0 n _ refl

module _ (r : Record) (b : Buffers) (l : ℕ) where
  -- append: 1, 2, 3, 4, 7, 9
  pub append_exactly : (keys values : List ℕ) (n : ℕ)
      → ((append_of r b l keys values).reply ≡ n) ↔ Applies n (store_refusals r b ++ append_refusals r.shape l (length_of r l) (length keys) (length values))
  unfolding append_of outcome
  append_exactly keys values n = exactly 0 n _ refl

  -- truncate: 1, 2, 3, 4
  pub truncate_exactly : (t n : ℕ) → ((truncate_of r b l t).reply ≡ n) ↔ Applies n (store_refusals r b ++ remove_refusals r.shape l)
  unfolding truncate_of outcome
  truncate_exactly t n = exactly 0 n _ refl

  -- read a row: 1, 2, 3, 4, 5, 7, 8
  pub read_exactly : (side h p : ℕ) (out : List ℕ) (n : ℕ)
      → ((read_of r b l side h p out).reply ≡ n) ↔ Applies n (store_refusals r b ++ read_refusals r.shape l (length_of r l) side h p (length out))
  unfolding read_of outcome
  read_exactly side h p out n = exactly 0 n _ refl
