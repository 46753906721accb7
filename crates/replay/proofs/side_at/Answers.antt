-- The numbers lie in the file, so all of them are read.
use mathlib.Core.Path.{sym}
use Prim.Native.Nat.{ℕ}
use lib.ListN.{replicate, length-replicate}
use Rattle.replay.proofs.StepLaws.{side_read}
use Rattle.replay.proofs.side_at.Goals as goal

pub returns-clause-result_value : goal.returns-clause-result_value
returns-clause-result_value c =
    let a = c.args in
    side_read a.file.now a.at a.n (replicate 512 0) _ (sym (length-replicate {A = ℕ} 512 0)) c.requires.1 c.requires.0 c.read_words.ensures
