use Rattle.std.proofs.Common.{Ok, Err, subst, w64}
use Rattle.std.proofs.lemmas.Int.{to_z-of_z}
use Rattle.coverage.specs.Axes.{extents}
use Rattle.shelf_laws.specs.Ramp.{gradient, ramp_cells, ramp_fault, ramp_kind}
use Rattle.shelf_laws.specs.RampMaking.{DescribedRamp}
use Rattle.shelf_laws.proofs.Ramps.{ramp_allowed, ramp_made, ramp_unmade, span_exact}
use Rattle.shelves.proofs.ramp_making.make_ramp.Goals as goal

pub returns-in_default : goal.returns-in_default
returns-in_default c =
    let name = c.args.name.now in
    let d = c.args.domain in
    let s = c.args.slopes in
    let g = gradient s in
    let off = c.args.offset in
    let told = subst (λ o. DescribedRamp (ramp_fault name (extents d) g o) name d s o (Err c.in_default.field-0)) (to_z-of_z w64 off c.ranges.offset) c.in_default.ensures in
    record {
      made = ramp_unmade (ramp_fault name (extents d) g off) name d s off c.in_default.field-0 (ramp_kind g off (extents d)) (ramp_cells g off) told;
      span = λ none. span_exact g off (extents d) (ramp_allowed name (extents d) g off none).axes_bounded;
    }

pub invariant_of-result-2 : goal.invariant_of-result-2
invariant_of-result-2 c =
    let name = c.args.name.now in
    let d = c.args.domain in
    let s = c.args.slopes in
    let told = subst (λ o. DescribedRamp (ramp_fault name (extents d) (gradient s) o) name d s o (Ok (c.in-Ok.about, c.in-Ok.plane))) (to_z-of_z w64 c.args.offset c.ranges.offset) c.in-Ok.ensures in
    record { kept = (ramp_made name d s c.args.offset c.in-Ok.about c.in-Ok.plane told).0 }

pub returns : goal.returns
returns c =
    let name = c.args.name.now in
    let d = c.args.domain in
    let s = c.args.slopes in
    let g = gradient s in
    let off = c.args.offset in
    let told = subst (λ o. DescribedRamp (ramp_fault name (extents d) g o) name d s o (Ok (c.in-Ok.about, c.in-Ok.plane))) (to_z-of_z w64 off c.ranges.offset) c.in-Ok.ensures in
    record {
      made = (ramp_made name d s off c.in-Ok.about c.in-Ok.plane told).1;
      span = λ none. span_exact g off (extents d) (ramp_allowed name (extents d) g off none).axes_bounded;
    }
