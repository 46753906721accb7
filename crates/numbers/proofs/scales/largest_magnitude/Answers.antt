-- `scales::largest_magnitude` meets its contract: what is left of the run, started at what was found, has the run's own largest magnitude.
use Rattle.std.proofs.Common.{◌≡◌, get_or, ap, ◌∙◌, arith, rules}
use Rattle.numbers.specs.Word.{float}
use Rattle.numbers.specs.Scale.{magnitude, larger}
use Rattle.numbers.proofs.Largest.{unsigned, start, turn, end, larger_yes, larger_no}
use Rattle.numbers.proofs.scales.largest_magnitude.Goals as goal
use Rattle.numbers.proofs.scales.largest_magnitude.Goals.{then-larger, else-larger}

pub loop-w-init : goal.loop-w-init
loop-w-init c = start _

pub loop-w-preserved : goal.loop-w-preserved
loop-w-preserved c =
    let run = c.args.run.now in
    let i = c.loop-w.w-index in
    let most = c.loop-w.most in
    let seen : c.word_to_f32-x.result ≡ magnitude (float (get_or run i 0)) = c.word_to_f32-x.ensures ∙ unsigned (get_or run i 0) in
    let next : c.if-larger.most ≡ larger most c.word_to_f32-x.result =
    elim c.if-larger.branch [ then-larger w ↦ w.most-is ∙ larger_yes _ _ w.if-larger.true | else-larger w ↦ w.most-is ∙ larger_no _ _ w.if-larger.false ] in
    turn run i most _ (search rules) (next ∙ ap (larger most) seen) c.loop-w.invariant

pub returns : goal.returns
returns c = end _ _ _ (omega arith) c.loop-w.invariant
