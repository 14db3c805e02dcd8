use Rattle.coverage.specs.Axes.{axes, extents}
use Rattle.shelf_laws.specs.Ramp.{gradient, least, most}
use Rattle.shelf_laws.proofs.Ramps.{Summed}
use Rattle.shelf_laws.proofs.ramp.Plane.span.Given as goal

abbrev pub invariant-loop-axis : goal.invariant-loop-axis
invariant-loop-axis l =
    Summed (least (extents l.domain) (gradient l.self.slopes)) l.self.offset axes l.axis-index l.span.lo
    × Summed (most (extents l.domain) (gradient l.self.slopes)) l.self.offset axes l.axis-index l.span.hi
