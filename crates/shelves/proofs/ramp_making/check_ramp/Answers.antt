use Rattle.std.proofs.Common.{subst, w64}
use Rattle.std.proofs.lemmas.Int.{to_z-of_z}
use Rattle.coverage.specs.Axes.{extents}
use Rattle.shelf_laws.specs.Ramp.{gradient, ramp_fault}
use Rattle.shelf_laws.specs.RampMaking.{DescribedRamp}
use Rattle.shelf_laws.proofs.Ramps.{ramp_answer}
use Rattle.shelves.proofs.ramp_making.check_ramp.Goals as goal

pub returns : goal.returns
returns c =
    let name = c.args.name.now in
    let d = c.args.domain in
    let s = c.args.slopes in
    let told = subst (λ o. DescribedRamp (ramp_fault name (extents d) (gradient s) o) name d s o c.describe_ramp.result) (to_z-of_z w64 c.args.offset c.ranges.offset) c.describe_ramp.ensures in
    ramp_answer _ (ramp_fault name (extents d) (gradient s) c.args.offset) name d s c.args.offset c.describe_ramp.result c.map.result told c.map.ensures.variant c.map.ensures.cases
