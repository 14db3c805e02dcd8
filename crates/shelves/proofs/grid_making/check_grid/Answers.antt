use Rattle.coverage.specs.Axes.{extents}
use Rattle.shelf_laws.specs.Making.{grid_fault}
use Rattle.shelf_laws.proofs.Makings.{described_answer}
use Rattle.shelves.proofs.grid_making.check_grid.Goals as goal

pub returns : goal.returns
returns c =
    described_answer _ (grid_fault c.args.name.now (extents c.args.domain) c.args.kind c.args.length) _ _ _ _
    c.describe_grid.result c.map.result c.describe_grid.ensures c.map.ensures.variant c.map.ensures.cases
