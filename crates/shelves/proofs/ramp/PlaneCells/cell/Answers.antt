use Rattle.std.proofs.Common.{◌≡◌, ℤ, Some, Option, sym, ap, ◌∙◌, subst, arith, w32, w64, SFits, to_z, of_z}
use Rattle.std.proofs.lemmas.Int.{to_z-of_z}
use Rattle.coverage.specs.Axes.{coordinates, extents}
use Rattle.coverage.proofs.Bounds.{describable_by}
use Rattle.coverage.proofs.Points.{inside_from}
use Rattle.shelf_laws.specs.Ramp.{gradient, ramp_value}
use Rattle.shelf_laws.proofs.Products.{fits_32}
use Rattle.shelf_laws.proofs.Ramps.{settled_value, sloped_from, value_small}
use Rattle.shelf_laws.proofs.Singles.{described_by}
use Rattle.shelves.proofs.ramp.PlaneCells.cell.Goals as goal

pub value-v-requires-clause-bounded : goal.value-v-requires-clause-bounded
value-v-requires-clause-bounded c =
    let a = c.args.about in
    let me = c.args.self.now in
    (describable_by a (described_by a (sloped_from a (gradient me.slopes) me.offset c.requires.kept).fixed)).axes_bounded

pub overflow_cast-result : goal.overflow_cast-result
overflow_cast-result c =
    let me = c.args.self.now in
    let g = gradient me.slopes in
    let a = c.args.about in
    let d = extents a.domain in
    let p = coordinates c.args.at in
    let s = sloped_from a g me.offset c.requires.kept in
    let v : to_z w64 (of_z w64 c.value-v.result) ≡ ramp_value g me.offset d p = to_z-of_z w64 c.value-v.result (record { sfits = c.value-v.type_inv }) ∙ c.value-v.ensures in
    subst (SFits w32) (sym v)
    (fits_32 2000000000 (ramp_value g me.offset d p) (omega arith) (value_small g me.offset d p (describable_by a (described_by a s.fixed)).axes_bounded s.mild s.near (inside_from d p c.requires.inside)))

pub returns : goal.returns
returns c =
    let me = c.args.self.now in
    let g = gradient me.slopes in
    let a = c.args.about in
    let d = extents a.domain in
    let p = coordinates c.args.at in
    let s = sloped_from a g me.offset c.requires.kept in
    let some : ℤ → Option ℤ = λ x. Some x in
    let v : to_z w64 (of_z w64 c.value-v.result) ≡ ramp_value g me.offset d p = to_z-of_z w64 c.value-v.result (record { sfits = c.value-v.type_inv }) ∙ c.value-v.ensures in
    let narrow = fits_32 2000000000 (ramp_value g me.offset d p) (omega arith) (value_small g me.offset d p (describable_by a (described_by a s.fixed)).axes_bounded s.mild s.near (inside_from d p c.requires.inside)) in
    ap some (ap (λ x. to_z w32 (of_z w32 x)) v ∙ (to_z-of_z w32 (ramp_value g me.offset d p) narrow ∙ sym (settled_value g me.offset d p)))
