use Rattle.coverage.specs.Axes.{coordinates, extents}
use Rattle.coverage.proofs.Turns.{Counted}
use Rattle.coverage.proofs.domain.Domain.number_over.Given as goal

abbrev pub invariant-loop-axis : goal.invariant-loop-axis
invariant-loop-axis l = Counted l.axes (extents l.self) (coordinates l.p) l.axis-index l.n l.stride
