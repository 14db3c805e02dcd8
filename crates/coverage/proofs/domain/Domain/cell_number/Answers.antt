use Rattle.coverage.specs.Axes.{coordinates, extents, number_at}
use Rattle.coverage.proofs.Points.{inside_from}
use Rattle.coverage.proofs.domain.Domain.cell_number.Goals as goal

pub number_over-requires : goal.number_over-requires
number_over-requires c = record { inside = inside_from (extents c.args.self) (coordinates c.args.p) c.requires.inside; few = c.requires.few }

pub returns : goal.returns
unfolding number_at
returns c = c.number_over.ensures
