-- A walk of step after step: each one further on, until one stays where it is, which is where the file is left.
-- A record that is passed has some bytes, so that as many steps as bytes are left are enough.
use mathlib.Core.Path.{◌≡◌, refl, ap, ◌∙◌}
use mathlib.Core.Bool.{Bool, true, false}
use mathlib.Core.List.{List, [], append-nil}
use mathlib.Core.Logic.{◌⊎◌, inl, inr}
use Prim.Native.Nat.{ℕ, zero, suc, ◌+◌, ◌-◌, ◌≤◌, ◌<◌}
use native.Mathlib.Nat.{add-zero, zero-add, suc-add}
use native.Mathlib.Omega.{arith}
use lib.Dec.{ltb}
use lib.ListN.{length}
use borrow.Author.Tests.{le-leb, lt-ltb, le-ltb, ltb-true}
use Rattle.replies.proofs.Flags.{alike}
use Rattle.callfile.specs.declared.Entry.TheVariants.{End, Bad}
use Rattle.callfile.specs.Format.{entry_at_of}
use Rattle.callfile.proofs.FormatLaws.{entry_in_file, stays}
use Rattle.replay.specs.Step.{Walk, step_of}
use Rattle.replay.specs.Transcript.{text_of, headed, walk_from}

module _ (file : List ℕ) where
  -- where no record stands a step stays
  same_place : (w : Walk) → (entry_at_of file w.place ≡ End) ⊎ (entry_at_of file w.place ≡ Bad) → (step_of file w).after ≡ w
  unfolding step_of
  same_place w (inl e) = rw (e, add-zero)
  same_place w (inr e) = rw (e, add-zero)

  stays_there : (w : Walk) → (step_of file w).after.place ≤ w.place → (step_of file w).after ≡ w
  unfolding step_of
  stays_there w h = same_place w (stays file w.place (omega arith))

  -- a step ends in the file
  pub step_inside : (w : Walk) → w.place ≤ length file → (step_of file w).after.place ≤ length file
  unfolding step_of
  step_inside w h = omega (arith, entry_in_file file w.place)

  -- at the end nothing follows, however many steps are taken
  none_left : (w : Walk) → length file ≤ w.place → text_of (step_of file w).line ≡ []
  unfolding step_of entry_at_of
  none_left w h = rw (le-leb (length file) w.place h)

  end_stays : (w : Walk) → length file ≤ w.place → (step_of file w).after ≡ w
  unfolding step_of entry_at_of
  end_stays w h = rw (le-leb (length file) w.place h, add-zero)

  at_end : (w : Walk) → length file ≤ w.place → walk_from 1 file w ≡ record { last = w; text = [] }
  unfolding walk_from
  at_end w h = rw (none_left w h, end_stays w h) (alike (ltb w.place w.place) (record { last = w; text = [] }))

  more_by : (k : ℕ) (w : Walk) (t : Bool) → ltb w.place (step_of file w).after.place ≡ t
      → (w.place < (step_of file w).after.place → walk_from (suc k) file (step_of file w).after ≡ walk_from k file (step_of file w).after)
      → walk_from (suc (suc k)) file w ≡ walk_from (suc k) file w
  unfolding walk_from
  more_by k w true e f = rw e (ap (headed (text_of (step_of file w).line)) (f (ltb-true _ _ e)))
  more_by k w false e f = rw e

  walk_more : (k : ℕ) (w : Walk) → length file ≤ w.place + k → walk_from (suc k) file w ≡ walk_from k file w
  unfolding walk_from
  walk_more zero w h = at_end w (omega arith)
  walk_more (suc k) w h = more_by k w _ refl (λ m. walk_more k (step_of file w).after (omega arith))

  -- as many steps as bytes are left are enough
  pub walk_enough : (d k : ℕ) (w : Walk) → length file ≤ w.place + k → walk_from (d + k) file w ≡ walk_from k file w
  walk_enough zero k w h = rw zero-add
  walk_enough (suc d) k w h = rw suc-add (walk_more (d + k) w (omega arith) ∙ walk_enough d k w h)

  -- what follows from a place on, where the step there moves, and where it stays
  pub walk_on : (w : Walk) → w.place < (step_of file w).after.place → (step_of file w).after.place ≤ length file
      → walk_from (length file - w.place) file w
      ≡ headed (text_of (step_of file w).line) (walk_from (length file - (step_of file w).after.place) file (step_of file w).after)
  unfolding walk_from
  walk_on w h f =
      let next = (step_of file w).after.place in
      let d = next - w.place - 1 in
      let k : length file - w.place ≡ suc (d + (length file - next)) = omega arith in
      rw (k, lt-ltb w.place next h, walk_enough d (length file - next) (step_of file w).after (omega arith))

  last_by : (w : Walk) (k : ℕ) → length file - w.place ≡ k → (step_of file w).after.place ≤ w.place
      → walk_from k file w ≡ record { last = (step_of file w).after; text = text_of (step_of file w).line }
  unfolding walk_from
  last_by w zero e h = rw (none_left w (omega arith), stays_there w h)
  last_by w (suc k) e h = rw (le-ltb w.place (step_of file w).after.place h, append-nil)

  pub walk-last : (w : Walk) → (step_of file w).after.place ≤ w.place
      → walk_from (length file - w.place) file w ≡ record { last = (step_of file w).after; text = text_of (step_of file w).line }
  walk-last w h = last_by w _ refl h
