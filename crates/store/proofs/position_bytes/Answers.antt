-- The limits bound every product.
use native.Mathlib.Omega.{arith}
use Rattle.store.proofs.StoreLaws.{position-bytes_in}
use Rattle.store.proofs.position_bytes.Goals as goal

pub overflow_mul-row : goal.overflow_mul-row
overflow_mul-row c = let w = position-bytes_in c.args.shape c.requires in record { fits = omega arith }

pub overflow_add-row : goal.overflow_add-row
overflow_add-row c = let w = position-bytes_in c.args.shape c.requires in record { fits = omega arith }

pub overflow_mul-result-2 : goal.overflow_mul-result-2
overflow_mul-result-2 c =
    let w = position-bytes_in c.args.shape c.requires in
    rw (c.cell_bytes.ensures, c.scale_words.ensures) (record { fits = omega arith })

pub returns : goal.returns
returns c = rw (c.cell_bytes.ensures, c.scale_words.ensures)
