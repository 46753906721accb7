-- A file that is being played: the text so far, and what follows it, is the whole text, and there is room for a line more.
-- A line has at most 700 bytes and a record that is passed at least 3, so that the text of a file within the limit fits.
use mathlib.Core.Path.{◌≡◌, refl, ap, ◌∙◌}
use mathlib.Core.List.{List, [], ◌++◌, append_assoc}
use Prim.Native.Nat.{ℕ, ◌+◌, ◌-◌, ◌*◌, ◌≤◌, ◌<◌}
use native.Mathlib.Omega.{arith}
use lib.ListN.{length}
use Rattle.shapes.specs.Buffers.{Buffers}
use Rattle.printing.specs.Place.{Placed}
use Rattle.printing.specs.Text.{Laid}
use Rattle.printing.proofs.LaidLaws.{placed_laid}
use Rattle.printing.proofs.PlaceLaws.{placed_none, placed_then, placed_length}
use Rattle.replay.specs.Step.{step_of}
use Rattle.replay.specs.Transcript.{text_of, start, Whole, headed, walk_from, Play, laid_out}
use Rattle.replay.specs.Turn.{turned}
use Rattle.replay.proofs.WalkLaws.{step_inside, walk_on, walk-last}
use Rattle.replay.proofs.LineLaws.{line_most, step_some}

module _ (file : List ℕ) (room : Buffers) (out₀ : List ℕ) where
  -- p is reached after some turns
  pub record Playing (p : Play) : Type 0 where
    pub inside : p.last.place ≤ length file
    pub so_far : List ℕ
    pub placed : Placed 0 so_far out₀ p.text.count p.text.out
    pub rest : headed so_far (walk_from (length file - p.last.place) file p.last) ≡ walk_from (length file) file (start room)
    pub short : 3 * p.text.count ≤ 700 * p.last.place

  pub playing_start : Playing (record { last = start room; text = record { count = 0; out = out₀ } })
  playing_start =
      let n : length file - 0 ≡ length file = omega arith in
      record { inside = omega arith; so_far = []; placed = placed_none 0 out₀; rest = rw n; short = omega arith }

  module _ (p : Play) (i : Playing p) where
    -- the text with one line more
    next_placed : Placed 0 (i.so_far ++ text_of (step_of file p.last).line) out₀ (turned file p).text.count (turned file p).text.out
    next_placed = placed_then i.placed (record { place = refl; out = refl }) (omega arith)

    next_playing : p.last.place < (step_of file p.last).after.place → Playing (turned file p)
    next_playing h =
        let r = step_inside file p.last i.inside in
        let a = i.short in
        let b = line_most file p.last in
        let d = step_some file p.last h in
        record {
          inside = r;
          so_far = i.so_far ++ text_of (step_of file p.last).line;
          placed = next_placed;
          rest = rw append_assoc (rw (walk_on file p.last h r) at i.rest);
          short = omega arith;
        }

    done_playing : (step_of file p.last).after.place ≤ p.last.place → turned file p ≡ laid_out (walk_from (length file) file (start room)) out₀
    done_playing h =
        ap (λ (l : Laid). record { last = (step_of file p.last).after; text = l }) (placed_laid next_placed)
        ∙ ap (λ (x : Whole). laid_out x out₀) (rw (walk-last file p.last h) at i.rest)

  pub playing_length : (p : Play) → Playing p → length file ≤ 16384 → 4194304 ≤ length out₀ → length p.text.out ≡ length out₀
  playing_length p i f o = placed_length i.placed (omega (arith, i.short, i.inside))

  pub playing_room : (p : Play) → Playing p → length file ≤ 16384 → 4194304 ≤ length out₀ → p.text.count + 2048 ≤ length p.text.out
  playing_room p i f o = omega (arith, i.short, i.inside, playing_length p i f o)

  pub playing_again : (p q : Play) → Playing p → q ≡ turned file p → length file ≤ 16384 → 4194304 ≤ length out₀ → p.last.place < q.last.place → Playing q
  playing_again p q i e f o h = rw e (next_playing p i (rw e at h))

  pub playing_stopped : (p q : Play) → Playing p → q ≡ turned file p → q.last.place ≤ p.last.place
      → q ≡ laid_out (walk_from (length file) file (start room)) out₀
  playing_stopped p q i e h = e ∙ done_playing p i (rw e at h)
