use Rattle.coverage.specs.Axes.{axes, coordinates, extents}
use Rattle.shelf_laws.specs.Ramp.{gradient, rise_at}
use Rattle.shelf_laws.proofs.Ramps.{Summed}
use Rattle.shelf_laws.proofs.ramp.Plane.value.Given as goal

abbrev pub invariant-loop-axis : goal.invariant-loop-axis
invariant-loop-axis l = Summed (rise_at (extents l.domain) (gradient l.self.slopes) (coordinates l.at)) l.self.offset axes l.axis-index l.v
