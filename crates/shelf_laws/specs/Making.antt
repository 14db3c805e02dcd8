-- Which making of a shelf is refused, and why: the tests in their order.
use Rattle.std.specs.Prelude.{ℕ, cond, ◌&&◌, List, Some, None, Option, ◌==◌}
use Rattle.coverage.specs.declared.kind.Kind.{Kind}
use Rattle.coverage.specs.Axes.{Extents, cells}
use Rattle.coverage.specs.Limits.{bounded, few, is_name, kind_narrow, kind_ordered}
use Rattle.shelf.specs.declared.fault.MakingFault.{MakingFault}
use Rattle.shelf.specs.declared.fault.MakingFault.TheVariants.{NoName, OutOfBounds, WideSpan, ManyCells, WrongLength}

-- a received grid: no name; an axis or the span with its ends out of order, or an axis out of bounds or
-- x missing; the span too wide; too many cells; memory of another length than the cells
abbrev pub grid_fault : List ℕ → Extents → Kind → ℕ → Option MakingFault
grid_fault name d k length =
    cond (is_name name)
    (cond (bounded d && kind_ordered k)
    (cond (kind_narrow k)
    (cond (few d)
    (cond (length == cells d) None (Some (WrongLength (cells d))))
    (Some ManyCells))
    (Some WideSpan))
    (Some OutOfBounds))
    (Some NoName)
