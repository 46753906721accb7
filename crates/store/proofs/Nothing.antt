-- A call that has nothing to change leaves record and both buffers as they were, whatever it answers: the paper's sentences on a t at or past the length and on n = 0.
-- What such a call would leave where it is done is what it leaves where it is refused.
use mathlib.Core.Path.{◌≡◌, ap}
use mathlib.Core.List.{List, []}
use Prim.Native.Nat.{ℕ, ◌≤◌}
use native.Mathlib.Nat.{add-zero, min-eq_left}
use lib.Dec.{eqb}
use lib.Seq.{set-get_or}
use Rattle.replies.specs.Outcome.{Case, lowest, outcome}
use Rattle.replies.proofs.Flags.{alike}
use Rattle.shapes.specs.Buffers.{Buffers}
use Rattle.buffers.proofs.Nothing.{no_positions, removed_none, appended_none}
use Rattle.store.specs.declared.Record.{Record}
use Rattle.store.specs.Record.{length_of, with_length_of}
use Rattle.store.specs.Calls.{store, append_of, truncate_of}

same_left : {A : Type 0} (refusals : List Case) (new old : A) → new ≡ old → (outcome refusals new old).result ≡ old
unfolding outcome
same_left refusals new old e = rw e (alike (eqb (lowest refusals) 0) old)

-- the length that a layer has, set again
same_length : (r : Record) (l : ℕ) → with_length_of r l (length_of r l) ≡ r
same_length r l = ap (λ (lens : List ℕ). record { shape = r.shape; lens = lens; seq_len = r.seq_len }) (set-get_or r.lens l 0)

module _ (r : Record) (b : Buffers) (l : ℕ) where
  nothing : (n : ℕ) (c : Buffers) → n ≡ length_of r l → c ≡ b → store (with_length_of r l n) c ≡ store r b
  nothing n c e q = rw (e, q, same_length r l)

  pub truncate_past : (t : ℕ) → length_of r l ≤ t → (truncate_of r b l t).result ≡ store r b
  unfolding truncate_of
  truncate_past t h = same_left _ _ _ (nothing _ _ (min-eq_left h) (removed_none r.shape l (length_of r l) b t h))

  pub append_none : (values : List ℕ) → (append_of r b l [] values).result ≡ store r b
  unfolding append_of
  append_none values =
      same_left _ _ _ (nothing _ _ (rw (no_positions r.shape, add-zero)) (appended_none r.shape l (length_of r l) b values))
