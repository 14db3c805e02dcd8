use Rattle.std.proofs.Common.{get_or, sym, ap, ◌∙◌, arith}
use Rattle.coverage.specs.Axes.{coordinates, extents}
use Rattle.coverage.proofs.Bounds.{describable_by, few_cells}
use Rattle.shelf_laws.specs.ByteGrid.{byte_value}
use Rattle.shelf_laws.proofs.ByteGrids.{byte_at, bytes_by}
use Rattle.shelf_laws.proofs.Singles.{described_by}
use Rattle.shelves.proofs.byte_grid.RefSliceU8Cells.cell.Goals as goal

pub cell_number-i-requires-clause-few : goal.cell_number-i-requires-clause-few
cell_number-i-requires-clause-few c =
    let a = c.args.about in
    few_cells (extents a.domain) (describable_by a (described_by a (bytes_by a c.args.self.now.now c.requires.kept).fixed)).cells_few

pub bounds-self-i : goal.bounds-self-i
bounds-self-i c = omega (arith, (bytes_by c.args.about c.args.self.now.now c.requires.kept).long, c.cell_number-i.ensures.below)

pub returns : goal.returns
returns c =
    let bs = c.args.self.now.now in
    c.byte_value.ensures
    ∙ (ap (λ i. byte_value (get_or bs i 0)) c.cell_number-i.ensures.number ∙ sym (byte_at bs (extents c.args.about.domain) (coordinates c.args.at) c.requires.inside))
