-- Until an open is accepted, every other kind prints `no 1`: the record of no store has no layers, and that is the first test of each.
use Prim.Native.Nat.{ℕ}
use mathlib.Core.Path.{◌≡◌, refl}
use mathlib.Core.List.{List}
use Rattle.replies.specs.Outcome.{lowest, outcome}
use Rattle.shapes.specs.Format.{layouts, known}
use Rattle.shapes.specs.Shape.{limits, within, total}
use Rattle.shapes.specs.Buffers.{Buffers}
use Rattle.store.specs.Calls.{append_of, truncate_of, advance_of, memory_bytes_of}
use Rattle.callfile.specs.declared.Entry.TheVariants.{Append, Truncate, Advance, Report}
use Rattle.arena.specs.Calls.{append_in_of, truncate_in_of}
use Rattle.replay.specs.Step.{answer, report_of, advance_in, effect_of}
use Rattle.replay.specs.Transcript.{start}

module _ (file : List ℕ) (place l n : ℕ) (room : Buffers) where
  pub append_not_open : (effect_of file place (Append l n) (start room).cache).line ≡ answer 1
  unfolding append_in_of append_of outcome lowest layouts known limits within total
  append_not_open = refl

  pub truncate_not_open : (effect_of file place (Truncate l n) (start room).cache).line ≡ answer 1
  unfolding truncate_in_of truncate_of outcome lowest layouts known limits within total
  truncate_not_open = refl

  pub advance_not_open : (effect_of file place (Advance n) (start room).cache).line ≡ answer 1
  unfolding advance_in advance_of outcome lowest layouts known limits within total
  advance_not_open = refl

  pub report_not_open : (effect_of file place Report (start room).cache).line ≡ answer 1
  unfolding report_of memory_bytes_of outcome lowest layouts known limits within total
  report_not_open = refl
