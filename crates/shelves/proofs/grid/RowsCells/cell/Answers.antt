use Rattle.std.proofs.Common.{get_or, pos, sym, ap, ◌∙◌, rules, w32, SFits}
use Rattle.std.proofs.lemmas.Int.{to_z-of_z}
use Rattle.coverage.specs.Axes.{coordinates, extents}
use Rattle.coverage.proofs.Bounds.{describable_by, few_cells}
use Rattle.shelf_laws.specs.Grid.{known}
use Rattle.shelf_laws.proofs.Grids.{kept_from, look_inside}
use Rattle.shelves.proofs.grid.RowsCells.cell.Goals as goal

pub cell_number-i-requires-clause-few : goal.cell_number-i-requires-clause-few
cell_number-i-requires-clause-few c =
    let a = c.args.about in
    few_cells (extents a.domain) (describable_by a (kept_from a c.args.self.now.lent.now c.requires.kept).described).cells_few

pub offset_bounds-self-i : goal.offset_bounds-self-i
offset_bounds-self-i c =
    let a = c.args.about in
    let few = few_cells (extents a.domain) (describable_by a (kept_from a c.args.self.now.lent.now c.requires.kept).described).cells_few in
    let below = c.cell_number-i.ensures.below in
    search rules

pub returns : goal.returns
returns c =
    let cs = c.args.self.now.lent.now in
    let v = get_or cs c.cell_number-i.result (pos 0) in
    let f : SFits w32 v = search rules in
    c.known.ensures
    ∙ (ap known (to_z-of_z w32 v f)
    ∙ (ap (λ i. known (get_or cs i (pos 0))) c.cell_number-i.ensures.number ∙ sym (look_inside c.args.about cs (coordinates c.args.at) c.requires.inside)))
