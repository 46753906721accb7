-- A line has at most 700 bytes, and a record that is passed has at least 3.
-- Each holds by the kind of the record at the place.
use mathlib.Core.Path.{◌≡◌, refl, sym, ◌∙◌}
use mathlib.Core.Bool.{Bool, true, false}
use mathlib.Core.List.{List}
use Prim.Native.Nat.{ℕ, ◌+◌, ◌≤◌, ◌<◌}
use native.Mathlib.Omega.{arith}
use lib.Dec.{eqb}
use lib.ListN.{length, length-take}
use lib.Seq.{get_or-take}
use borrow.Author.Tests.{eqb-true}
use Rattle.replies.proofs.Refusals.{given_number}
use Rattle.store.specs.Record.{byte_count}
use Rattle.store.specs.Calls.{Store, record_refusals, memory_bytes_of}
use Rattle.store.specs.declared.Record.{Record}
use Rattle.store.proofs.StoreLaws.{Sound, sound_record, sound_limits, len_in}
use Rattle.callfile.specs.declared.Entry.{Entry}
use Rattle.callfile.specs.declared.Entry.TheVariants.{Open, Append, Truncate, Advance, Report, End, Bad}
use Rattle.callfile.specs.Format.{entry_at_of, size_of}
use Rattle.printing.proofs.TextLaws.{answer_most, report_most, bad_most}
use Rattle.replay.specs.Step.{Walk, reported, report_of, effect_of, step_of}
use Rattle.replay.specs.Transcript.{text_of}

-- a report's lengths are those of a sound record
sound_most : (r : Record) (bytes : ℕ) → Sound r → length (text_of (reported r bytes)) ≤ 700
sound_most r bytes s =
    let m = sound_limits r s in
    report_most _ bytes _
    (λ i h. let k : i < r.shape.layers = omega (arith, simp length-take at h) in rw (get_or-take {A = ℕ} _ _ i 0 k) (omega (arith, len_in r i s k)))
    (simp length-take (omega arith))

report_by : (r : Record) (t : Bool) → eqb (memory_bytes_of r).reply 0 ≡ t → length (text_of (report_of r)) ≤ 700
unfolding report_of memory_bytes_of
report_by r true e = rw e (sound_most r _ (sound_record r (sym (given_number (record_refusals r) (byte_count r) 0 refl) ∙ eqb-true _ 0 e)))
report_by r false e = rw e (answer_most _)

effect_most : (file : List ℕ) (at : ℕ) (e : Entry) (cache : Store) → length (text_of (effect_of file at e cache).line) ≤ 700
effect_most file at (Open s) cache = answer_most _
effect_most file at (Append l n) cache = answer_most _
effect_most file at (Truncate l t) cache = answer_most _
effect_most file at (Advance n) cache = answer_most _
effect_most file at Report cache = report_by cache.rec _ refl
effect_most file at End cache = omega arith
effect_most file at Bad cache = bad_most at

size_some : (e : Entry) → 0 < size_of e → 3 ≤ size_of e
size_some (Open s) h = omega arith
size_some (Append l n) h = omega arith
size_some (Truncate l t) h = omega arith
size_some (Advance n) h = omega arith
size_some Report h = omega arith
size_some End h = absurd (omega arith)
size_some Bad h = absurd (omega arith)

module _ (file : List ℕ) where
  pub line_most : (w : Walk) → length (text_of (step_of file w).line) ≤ 700
  unfolding step_of
  line_most w = effect_most file w.place (entry_at_of file w.place) w.cache

  pub step_some : (w : Walk) → w.place < (step_of file w).after.place → w.place + 3 ≤ (step_of file w).after.place
  unfolding step_of
  step_some w h = omega (arith, size_some (entry_at_of file w.place) (omega arith))
