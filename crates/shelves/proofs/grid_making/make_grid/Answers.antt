use Rattle.std.proofs.Common.{◌≡◌, Bool, List, ℤ, cond, is_some, length, replicate, ap, sym, ◌∙◌}
use Rattle.shelf_laws.specs.Grid.{null}
use Rattle.shelf_laws.proofs.Grids.{grid_made}
use Rattle.shelves.proofs.grid_making.make_grid.Goals as goal
use Rattle.shelves.proofs.grid_making.make_grid.Goals.{then-is_some, else-is_some}

-- what the memory holds is null in every cell where there is a coverage, and else what it held
pub invariant_of-result : goal.invariant_of-result
invariant_of-result c =
    let before = c.args.cells.now in
    let by : Bool → List ℤ = λ b. cond b (replicate (length before) null) before in
    let left : c.if-is_some.cells ≡ by (is_some c.ok-about.result) = elim c.if-is_some.branch [
      | then-is_some w ↦ w.cells-is ∙ (w.blank.ensures ∙ sym (ap by (sym c.is_some.ensures ∙ w.if-is_some.true)))
      | else-is_some w ↦ w.cells-is ∙ sym (ap by (sym c.is_some.ensures ∙ w.if-is_some.false))
    ] in
    record { kept = (grid_made c.args.name.now c.args.domain c.args.kind before c.if-is_some.cells c.describe_grid.result c.ok-about.result c.describe_grid.ensures c.ok-about.ensures.value left).0 }

pub returns : goal.returns
returns c =
    let before = c.args.cells.now in
    let by : Bool → List ℤ = λ b. cond b (replicate (length before) null) before in
    let left : c.if-is_some.cells ≡ by (is_some c.ok-about.result) = elim c.if-is_some.branch [
      | then-is_some w ↦ w.cells-is ∙ (w.blank.ensures ∙ sym (ap by (sym c.is_some.ensures ∙ w.if-is_some.true)))
      | else-is_some w ↦ w.cells-is ∙ sym (ap by (sym c.is_some.ensures ∙ w.if-is_some.false))
    ] in
    (grid_made c.args.name.now c.args.domain c.args.kind before c.if-is_some.cells c.describe_grid.result c.ok-about.result c.describe_grid.ensures c.ok-about.ensures.value left).1
