-- The first line feed of the rest is where its line ends.
use mathlib.Core.Path.{◌≡◌, refl, sym, ◌∙◌}
use mathlib.Core.Logic.{◌≢◌}
use native.Mathlib.Omega.{arith}
use lib.ListN.{drop}
use borrow.Author.Rules.{rules}
use borrow.Author.Tests.{tests}
use Rattle.std.proofs.lemmas.Iterator.{YieldsList-from_slice, IsFirst-from_position, index_from_first}
use Rattle.std.proofs.lemmas.Grind.{common_steps}
use Rattle.test_lines.specs.Line.{line_length_of}
use Rattle.test_lines.proofs.LineLaws.{line_hit, line_miss}
use Rattle.test_lines.proofs.line_length.Goals as goal

pub returns : goal.returns
unfolding line_length_of
returns c =
    let r : c.in-Some.rest.now ≡ drop c.args.at c.args.text.now = grind (arith, common_steps) in
    let f = IsFirst-from_position _ _ c.position.result (λ b. b ≡ 10) (λ b. b ≢ 10) c.position.ensures.ran (YieldsList-from_slice c.in-Some.rest.now c.iter.ensures.rest) (λ x q k. search (rules, tests)) (λ x q k. search (rules, tests)) in
    c.unwrap_or.ensures ∙ sym (index_from_first line_length_of (λ b. b ≡ 10) (λ b. b ≢ 10) refl line_hit line_miss _ _ f) ∙ rw r
