use Rattle.std.proofs.Common.{◌≡◌, ◌&&◌, true, false, Err, Result, rules, sym, refl, ap, ◌∙◌, w64}
use Rattle.std.proofs.lemmas.Int.{to_z-of_z}
use Rattle.std.proofs.lemmas.Result.{err_from_is_err_and}
use Rattle.coverage.specs.declared.description.Description.{Description}
use Rattle.coverage.specs.declared.range.Range.{Range}
use Rattle.coverage.specs.declared.kind.Kind.{Kind}
use Rattle.coverage.specs.declared.kind.Kind.TheVariants.{Number}
use Rattle.coverage.specs.Axes.{cells, extents}
use Rattle.coverage.specs.Limits.{bounded, few, is_name, name_bytes}
use Rattle.shelf.specs.declared.fault.MakingFault.{MakingFault}
use Rattle.shelf.specs.declared.fault.MakingFault.TheVariants.{OutOfBounds, ManyCells}
use Rattle.shelf_laws.specs.declared.ramp.Plane.{Plane}
use Rattle.shelf_laws.specs.Ramp.{all_mild, gradient, is_near, ramp_span}
use Rattle.shelf_laws.proofs.Makings.{counted_err, counted_ok}
use Rattle.shelf_laws.proofs.Ramps.{ramp_described, ramp_fault_by, ramp_refused}
use Rattle.shelves.proofs.ramp_making.describe_ramp.Goals as goal

pub returns-then-not-is_near : goal.returns-then-not-is_near
returns-then-not-is_near c =
    let name = c.args.name.now in
    let d = extents c.args.domain in
    let g = gradient c.args.slopes in
    let off = c.args.offset in
    let named : is_name name ≡ true = search rules in
    let v : c.if-are_mild.value ≡ (bounded d && (all_mild g && is_near off)) = search rules in
    ramp_refused name c.args.domain c.args.slopes off _ OutOfBounds (ramp_fault_by name d g off true false (few d) named (sym v ∙ c.if-not-is_near.true) refl) refl

pub returns-in_err-count_cells : goal.returns-in_err-count_cells
returns-in_err-count_cells c =
    let name = c.args.name.now in
    let d = extents c.args.domain in
    let g = gradient c.args.slopes in
    let off = c.args.offset in
    let named : is_name name ≡ true = search rules in
    let b : (bounded d && (all_mild g && is_near off)) ≡ true = search rules in
    let many = counted_err (few d) (cells d) c.in_err-count_cells.field-0.0 (sym c.in_err-count_cells.was ∙ c.count_cells.ensures) in
    let e = err_from_is_err_and c.from_residual-in_err-count_cells.result c.from_residual-in_err-count_cells.ensures.1 in
    let err : MakingFault → Result (Description × Plane) MakingFault = λ f. Err f in
    ramp_refused name c.args.domain c.args.slopes off _ ManyCells (ramp_fault_by name d g off true true false named b many.0) (e.1 ∙ ap err (e.2 ∙ many.1))

pub returns : goal.returns
returns c =
    let name = c.args.name.now in
    let d = extents c.args.domain in
    let g = gradient c.args.slopes in
    let off = c.args.offset in
    let named : is_name name ≡ true = search rules in
    let bytes : name_bytes c.in_ok-name.name ≡ name = search rules in
    let b : (bounded d && (all_mild g && is_near off)) ≡ true = search rules in
    let n = counted_ok (few d) (cells d) c.in_ok-count_cells.field-0 (sym c.in_ok-count_cells.was ∙ c.count_cells.ensures) in
    let same = to_z-of_z w64 off c.ranges.offset in
    let number : Range → Kind = λ r. Number r in
    let kind = ap number (c.span.ensures ∙ ap (λ o. ramp_span g o d) same) in
    ramp_described name c.args.domain c.args.slopes off _ _ (ramp_fault_by name d g off true true true named b n) (record { named = bytes; domained = refl; kinded = kind; marked = refl }) refl same
