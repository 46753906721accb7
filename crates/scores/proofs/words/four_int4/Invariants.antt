-- Each total so far is that of the groups passed of its own row.
use mathlib.Core.Path.{◌≡◌}
use lib.ListN.{length, replicate}
use Rattle.lists.specs.Chunks.{turns}
use Rattle.numbers.specs.Word.{float}
use Rattle.attention.specs.Order.{added}
use Rattle.scores.proofs.GroupLaws.{four_term}
use Rattle.scores.proofs.words.four_int4.Given as goal

abbrev pub invariant-loop-g : goal.invariant-loop-g
invariant-loop-g l =
    (l.totals ≡ turns l.g (λ g. added (four_term l.query l.cells l.scales l.w g)) (replicate 4 (float 0))) × (length l.totals ≡ 4)
