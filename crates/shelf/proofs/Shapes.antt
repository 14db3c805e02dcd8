-- Counting strips and cells of a description within the limits.
use Rattle.std.proofs.Common.{◌≡◌, ◌≤◌, min, true, arith}
use native.Mathlib.Nat.{min-eq_left}
use Rattle.coverage.specs.declared.axis.Axis.TheVariants.{X}
use Rattle.coverage.specs.declared.description.Description.{Description}
use Rattle.coverage.specs.Axes.{extents}
use Rattle.coverage.specs.Limits.{describable}
use Rattle.coverage.specs.Strips.{row_width, strips}
use Rattle.coverage.proofs.Bounds.{bounded_ordered, describable_by, few_cells, sized, strips_few}

-- the counts reach no cap
pub strips_counted : (a : Description) → describable a ≡ true → min (strips (extents a.domain)) 65537 ≡ strips (extents a.domain)
strips_counted a h =
    let d = extents a.domain in
    let l = describable_by a h in
    let s = strips_few d (bounded_ordered d l.axes_bounded) (few_cells d l.cells_few) in
    min-eq_left (let k : strips d ≤ 65537 = omega arith in k)

pub width_counted : (a : Description) → describable a ≡ true → min (row_width (extents a.domain)) 65537 ≡ row_width (extents a.domain)
width_counted a h =
    let d = extents a.domain in
    let l = describable_by a h in
    let s = sized d (bounded_ordered d l.axes_bounded) (few_cells d l.cells_few) X in
    min-eq_left (let k : row_width d ≤ 65537 = omega arith in k)
