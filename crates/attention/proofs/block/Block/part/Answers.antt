-- The part lies in the block, is a block of its own, and has the rows that are there.
use mathlib.Core.Path.{refl, ◌∙◌}
use native.Mathlib.Omega.{arith}
use Rattle.shapes.specs.Format.{format_number}
use Rattle.attention.proofs.PartLaws.{part_inside, part_rows, cells_there, scales_there}
use Rattle.attention.proofs.block.Block.part.Goals as goal

pub rows_of-requires : goal.rows_of-requires
rows_of-requires c =
    let b = c.args.self.now in
    (part_inside (format_number b.format) b.numbers b.rows b.cells.now b.scales.now b.fits.0 c.min-first.result c.min-rows.result (omega arith) b.fits.1 b.fits.2).0

pub rows_of-requires-2 : goal.rows_of-requires-2
rows_of-requires-2 c =
    let b = c.args.self.now in
    (part_inside (format_number b.format) b.numbers b.rows b.cells.now b.scales.now b.fits.0 c.min-first.result c.min-rows.result (omega arith) b.fits.1 b.fits.2).1

pub invariant_of-result : goal.invariant_of-result
invariant_of-result c =
    let b = c.args.self.now in
    let rows = part_rows (format_number b.format) b.numbers b.rows b.cells.now b.scales.now b.fits.0 c.min-first.result c.min-rows.result (omega arith) b.fits.1 b.fits.2 refl c.rows_of.ensures c.rows_of-2.ensures in
    record { fits = (rows, b.fits.1, b.fits.2) }

pub returns-clause-cells : goal.returns-clause-cells
returns-clause-cells c =
    let b = c.args.self.now in
    c.rows_of.ensures ∙ cells_there (format_number b.format) b.numbers b.rows b.cells.now b.scales.now b.fits.0 c.args.p c.args.n b.fits.1 c.min-first.ensures c.min-rows.ensures

pub returns-clause-scales : goal.returns-clause-scales
returns-clause-scales c =
    let b = c.args.self.now in
    c.rows_of-2.ensures ∙ scales_there (format_number b.format) b.numbers b.rows b.cells.now b.scales.now b.fits.0 c.args.p c.args.n b.fits.2 c.min-first.ensures c.min-rows.ensures
