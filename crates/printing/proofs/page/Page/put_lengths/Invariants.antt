-- The first lengths have been put, each in at most 11 bytes.
use Prim.Native.Nat.{◌+◌, ◌*◌, ◌≤◌}
use lib.ListN.{take}
use Rattle.printing.specs.Put.{Put}
use Rattle.printing.specs.Text.{spaced}
use Rattle.printing.proofs.page.Page.put_lengths.Given as goal

abbrev pub invariant-loop-n : goal.invariant-loop-n
invariant-loop-n l = record {
  within : l.self.at ≤ l.initial.self.at + 11 * l.n-index;
  put : Put (spaced (take l.n-index l.lens)) l.initial.self l.self;
}
