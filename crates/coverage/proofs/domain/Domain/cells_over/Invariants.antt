use Rattle.std.proofs.Common.{◌≡◌, ◌*◌, ◌≤◌, min, drop}
use Rattle.coverage.specs.Axes.{cells_over, extents}
use Rattle.coverage.proofs.domain.Domain.cells_over.Given as goal

-- the cells counted so far, times those of the axes to come, are the cells
abbrev pub invariant-loop-axis : goal.invariant-loop-axis
invariant-loop-axis l =
    (min (l.n * cells_over (drop l.axis-index l.axes) (extents l.self)) 65537 ≡ min (cells_over l.axes (extents l.self)) 65537)
    × (l.n ≤ 65537)
