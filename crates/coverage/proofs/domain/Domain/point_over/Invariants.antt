use Rattle.std.proofs.Common.{◌≡◌, drop}
use Rattle.coverage.specs.declared.axis.Axis.{Axis}
use Rattle.coverage.specs.Axes.{coordinates, extents, point_over}
use Rattle.coverage.proofs.domain.Domain.point_over.Given as goal

-- the point so far, with the axes to come put in, is the point
abbrev pub invariant-loop-axis : goal.invariant-loop-axis
invariant-loop-axis l = (b : Axis) → point_over (drop l.axis-index l.axes) (extents l.self) l.n (coordinates l.p) b ≡ point_over l.axes (extents l.self) l.number (coordinates l.initial.p) b
