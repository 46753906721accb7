-- The numbers passed are read, and what is left is as it was.
use mathlib.Core.Path.{refl}
use native.Mathlib.Omega.{arith}
use borrow.Author.Rules.{rules}
use Rattle.lists.specs.Chunks.{tab}
use Rattle.lists.proofs.Tab.{tab-set, tab-done}
use Rattle.callfile.specs.Format.{words}
use Rattle.callfile.proofs.FormatLaws.{words-read, rest_from, word_from}
use Rattle.callfile.proofs.read_words.Goals as goal

pub loop-i-init : goal.loop-i-init
unfolding tab
loop-i-init c = search rules

pub loop-i-preserved : goal.loop-i-preserved
loop-i-preserved c =
    let a = c.args in
    let i = c.loop-i.i in
    let r = rest_from a.file.now a.at c.in-Some.ensures.lookup.0.2 in
    let v = word_from a.file.now a.at i r c.as_chunks.ensures.front (omega (arith, c.as_chunks.ensures.front_len)) c.from_le_bytes.ensures in
    (omega arith, tab-set _ _ _ (omega arith) c.loop-i.invariant.1 v, search rules)

pub returns : goal.returns
unfolding words
returns c =
    let a = c.args in
    rw (words-read a.file.now a.at a.out.now (omega (arith, c.in-Some.ensures.lookup.0, c.as_chunks.ensures.front_len)))
    (tab-done _ _ _ c.loop-i.invariant.1 (omega arith) refl)
