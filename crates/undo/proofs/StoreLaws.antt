-- A store whose every layer has given rows and nothing else: one that was just opened is such a store, and it refuses no rows that fit.
-- Each holds by the definition of opening and of the refusals.
use mathlib.Core.Path.{◌≡◌, refl, ◌∙◌}
use mathlib.Core.Bool.{true}
use mathlib.Core.List.{List}
use Prim.Native.Nat.{ℕ, ◌+◌, ◌*◌, ◌/◌, ◌≤◌, ◌<◌}
use native.Mathlib.Nat.{mul-div_cancel, mul-mod_left}
use lib.ListN.{length, length-replicate}
use borrow.Author.Tests.{lt-ltb, le-leb, eq-eqb, not-false}
use Rattle.replies.specs.Outcome.{outcome}
use Rattle.replies.proofs.Flags.{both_true}
use Rattle.replies.proofs.Refusals.{None, lowest_none, none_lowest, passed_before}
use Rattle.shapes.specs.declared.Shape.{Shape}
use Rattle.shapes.specs.Shape.{width, cell_total, scale_total, within, exact}
use Rattle.shapes.proofs.ShapeLaws.{within-limits, width_in}
use Rattle.shapes.specs.Buffers.{Buffers}
use Rattle.store.specs.Record.{length_of}
use Rattle.store.specs.Calls.{Store, buffer_refusals, store_refusals, append_refusals, open_of, append_of}
use Rattle.store.proofs.LengthLaws.{HasLengths, new_has, new_length, lengths_good}
use Rattle.undo.specs.Survivors.{Rows, no_rows}
use Rattle.undo.proofs.LayerLaws.{HasRows, Sizes, InRoom, has_none}

-- a store of shape s, with the rows of each layer and nothing else
pub record Renders (s : Shape) (t : Store) (of : ℕ → Rows) : Type 0 where
  pub shape_is : t.rec.shape ≡ s
  pub shape_in : within s ≡ true
  pub lengths : HasLengths t.rec
  pub sizes : Sizes s t.memory
  pub layer : (l : ℕ) → HasRows s l (length_of t.rec l) (of l) t.memory

-- a store that was just opened has no rows
pub opened_renders : (s : Shape) (b : Buffers) → (open_of s b).reply ≡ 0 → Renders s (open_of s b).result (λ l. no_rows)
unfolding open_of outcome
opened_renders s b h =
    let v : within s ≡ true = not-false (within s) (lowest_none 0 (buffer_refusals s b) refl h).0 in
    rw h
    (record {
      shape_is = refl;
      shape_in = v;
      lengths = new_has s;
      sizes = (length-replicate {A = ℕ} (cell_total s) 0, length-replicate {A = ℕ} (scale_total s) 0);
      layer = λ l. rw (new_length s l) (has_none s l);
    })

module _ {s : Shape} {t : Store} {of : ℕ → Rows} (x : Renders s t of) where
  -- its record and buffers are refused by no call
  nothing_refused : None (store_refusals t.rec t.memory)
  unfolding exact
  nothing_refused =
      let good = lengths_good t.rec (λ l. rw x.shape_is (x.layer l).span) in
      (rw (x.shape_is, x.shape_in), (rw (x.shape_is, both_true (eq-eqb _ _ x.sizes.0) (eq-eqb _ _ x.sizes.1)), (rw good, tt)))

  pub in-room : {l : ℕ} → l < s.layers → InRoom s l t.memory
  in-room w = record { in-limits = within-limits s x.shape_in; layer = w; sizes = x.sizes }

  -- rows that fit are accepted
  pub append-accepted : (l : ℕ) (keys values : List ℕ) (n : ℕ) → l < s.layers → length keys ≡ n * width s → length values ≡ n * width s
      → length_of t.rec l + n ≤ s.capacity → (append_of t.rec t.memory l keys values).reply ≡ 0
  unfolding append_of outcome
  append-accepted l keys values n w k v span =
      let d : 0 < width s = (width_in s (within-limits s x.shape_in)).0 in
      let e : length keys / width s ≡ n = rw k (mul-div_cancel n d) in
      let whole : None (append_refusals s l (length_of t.rec l) (length keys) (length values)) = (
        rw (lt-ltb l s.layers w),
        (rw (k, v, mul-mod_left n (width s), eq-eqb (n * width s) (n * width s) refl), (rw (e, le-leb _ _ span), tt)),
      ) in
      passed_before (store_refusals t.rec t.memory) _ nothing_refused ∙ rw x.shape_is (none_lowest _ whole)
