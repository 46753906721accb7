-- The sum so far is that of the layers passed, and small.
use mathlib.Core.Path.{◌≡◌}
use Prim.Native.Nat.{◌+◌, ◌*◌, ◌≤◌}
use Rattle.lists.specs.Chunks.{turns}
use Rattle.store.specs.Record.{length_of, position_bytes_of}
use Rattle.store.proofs.Record.bytes_of_layers.Given as goal

abbrev pub invariant-loop-len : goal.invariant-loop-len
invariant-loop-len l = (l.len-index ≤ l.self.shape.layers) × (l.sum ≡ turns l.len-index (λ i x. x + length_of l.self i * position_bytes_of l.self.shape) 0) × (l.sum ≤ l.len-index * 2684354560)
