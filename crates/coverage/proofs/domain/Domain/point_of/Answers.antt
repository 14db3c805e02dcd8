use Rattle.std.proofs.Common.{ap, ◌∙◌}
use Rattle.coverage.specs.Axes.{axes, extents, point_at, point_over}
use Rattle.coverage.proofs.Points.{origin_is}
use Rattle.coverage.proofs.domain.Domain.point_of.Goals as goal

pub returns : goal.returns
unfolding point_at
returns c = λ a. c.point_over.ensures a ∙ ap (λ o. point_over axes (extents c.args.self) c.args.n o a) origin_is
