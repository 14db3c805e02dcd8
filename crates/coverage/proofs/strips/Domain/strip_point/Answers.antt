use Rattle.std.proofs.Common.{◌≡◌, ap, ◌∙◌}
use Rattle.coverage.specs.declared.axis.Axis.{Axis}
use Rattle.coverage.specs.declared.axis.Axis.TheVariants.{Y, T}
use Rattle.coverage.specs.Axes.{across, coordinates, extents, point_over}
use Rattle.coverage.specs.Strips.{strip_point}
use Rattle.coverage.proofs.Points.{origin_is}
use Rattle.coverage.proofs.Standing.{strip_stands, stands_as}
use Rattle.coverage.proofs.strips.Domain.strip_point.Goals as goal

pub returns : goal.returns
unfolding strip_point
returns c =
    let d = extents c.args.self in
    let e : (a : Axis) → coordinates c.point_over.result a ≡ strip_point d c.args.n a =
    λ a. c.point_over.ensures a ∙ ap (λ o. point_over across d c.args.n o a) origin_is in
    record {
      place = e;
      stands = λ h. stands_as d c.args.n (coordinates c.point_over.result) (strip_point d c.args.n) (e Y) (e T) (strip_stands d c.args.n c.requires.sized h);
    }
