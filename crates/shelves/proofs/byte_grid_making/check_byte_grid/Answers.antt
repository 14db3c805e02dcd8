use Rattle.std.proofs.Common.{ap, ◌∙◌}
use Rattle.coverage.specs.Axes.{extents}
use Rattle.shelf.specs.Meaning.{answer_of}
use Rattle.shelf_laws.specs.ByteGrid.{byte_kind}
use Rattle.shelf_laws.specs.Making.{grid_fault}
use Rattle.shelf_laws.proofs.ByteGrids.{byte_fault_is}
use Rattle.shelf_laws.proofs.Makings.{described_answer}
use Rattle.shelves.proofs.byte_grid_making.check_byte_grid.Goals as goal

pub returns : goal.returns
returns c =
    let name = c.args.name.now in
    let d = extents c.args.domain in
    described_answer _ (grid_fault name d byte_kind c.args.length) _ _ _ _
    c.describe_grid.result c.map.result c.describe_grid.ensures c.map.ensures.variant c.map.ensures.cases
    ∙ ap answer_of (byte_fault_is name d c.args.length)
