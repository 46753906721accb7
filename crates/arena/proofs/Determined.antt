-- Whatever a call in the room at hand may answer and leave under its statement, it answers and leaves one thing.
-- Each holds by the store's law of answers.
use mathlib.Core.List.{List}
use Prim.Native.Nat.{ℕ}
use Rattle.shapes.specs.declared.Shape.{Shape}
use Rattle.store.specs.Calls.{Store}
use Rattle.store.proofs.Determined.{OneStore, one_store}
use Rattle.arena.specs.Calls.{open_in, append_in_of, truncate_in_of}

module _ (cache : Store) where
  pub open_determined : (s : Shape) → OneStore (open_in s cache)
  open_determined s = one_store (open_in s cache)

  pub append_determined : (l : ℕ) (keys values : List ℕ) → OneStore (append_in_of l keys values cache)
  append_determined l keys values = one_store (append_in_of l keys values cache)

  pub truncate_determined : (l t : ℕ) → OneStore (truncate_in_of l t cache)
  truncate_determined l t = one_store (truncate_in_of l t cache)
