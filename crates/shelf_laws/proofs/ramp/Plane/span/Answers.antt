use Rattle.std.proofs.Common.{◌≡◌, ℕ, ◌+◌, ◌*◌, ◌<◌, length, get_or, ℤ, ◌+ℤ◌, sym, ap, ◌∙◌, subst, ap₂, arith, w64, SFits, to_z, of_z}
use Rattle.std.proofs.lemmas.Int.{to_z-of_z}
use Rattle.coverage.specs.declared.axis.Axis.{Axis}
use Rattle.coverage.specs.declared.axis.Axis.TheVariants.{X}
use Rattle.coverage.specs.declared.range.Range.{Range}
use Rattle.coverage.specs.Axes.{axes, extents}
use Rattle.coverage.specs.Limits.{axis_bounded}
use Rattle.shelf_laws.specs.Ramp.{gradient, is_mild, least, most, rises}
use Rattle.shelf_laws.proofs.Products.{Small, fits_64}
use Rattle.shelf_laws.proofs.Ramps.{Summed, each_bounded, each_mild, rises_small, sum_turn}
use Rattle.shelf_laws.proofs.ramp.Plane.span.Goals as goal

pub rises-rises-requires : goal.rises-rises-requires
rises-rises-requires c =
    let a = get_or axes c.loop-axis.axis-index X in
    let s = to_z-of_z w64 c.on-in-loop-axis.result (record { sfits = c.on-in-loop-axis.type_inv }) ∙ c.on-in-loop-axis.ensures in
    record {
      bounded = ap axis_bounded c.on.ensures ∙ each_bounded (extents c.args.domain) c.requires a;
      mild = ap is_mild s ∙ each_mild (gradient c.args.self.slopes) c.args.self.mild a;
    }

-- one end of the span: what the loop has is small, so that it is the same in 64 bits
end_turn : (f : Axis → ℤ) (offset : ℤ) (i : ℕ) (v w : ℤ) → Summed f offset axes i v → i < length axes → w ≡ f (get_or axes i X) → Small 100000000 w →
    SFits w64 (to_z w64 (of_z w64 v) +ℤ to_z w64 (of_z w64 w)) × Summed f offset axes (i + 1) (to_z w64 (of_z w64 (to_z w64 (of_z w64 v) +ℤ to_z w64 (of_z w64 w))))
end_turn f offset i v w k h e s =
    sum_turn f offset i v w _ _ k h e s (to_z-of_z w64 v (fits_64 (100000000 * (i + 1)) v (omega arith) k.small)) (to_z-of_z w64 w (fits_64 100000000 w (omega arith) s))

pub overflow_add-span : goal.overflow_add-span
overflow_add-span c =
    let d = extents c.args.domain in
    let g = gradient c.args.self.slopes in
    let a = get_or axes c.loop-axis.axis-index X in
    let s = to_z-of_z w64 c.on-in-loop-axis.result (record { sfits = c.on-in-loop-axis.type_inv }) ∙ c.on-in-loop-axis.ensures in
    let w : c.rises-rises.result ≡ rises (d a) (g a) = c.rises-rises.ensures ∙ ap₂ rises c.on.ensures s in
    let small = rises_small (d a) (g a) (each_bounded d c.requires a) (each_mild g c.args.self.mild a) in
    (end_turn (least d g) _ c.loop-axis.axis-index c.loop-axis.span.lo c.rises-rises.result.lo c.loop-axis.invariant.0 c.loop-axis-test.true
    (ap (λ (r : Range). r.lo) w) (subst (λ (r : Range). Small 100000000 r.lo) (sym w) small.0)).0

pub overflow_add-span-in-loop-axis : goal.overflow_add-span-in-loop-axis
overflow_add-span-in-loop-axis c =
    let d = extents c.args.domain in
    let g = gradient c.args.self.slopes in
    let a = get_or axes c.loop-axis.axis-index X in
    let s = to_z-of_z w64 c.on-in-loop-axis.result (record { sfits = c.on-in-loop-axis.type_inv }) ∙ c.on-in-loop-axis.ensures in
    let w : c.rises-rises.result ≡ rises (d a) (g a) = c.rises-rises.ensures ∙ ap₂ rises c.on.ensures s in
    let small = rises_small (d a) (g a) (each_bounded d c.requires a) (each_mild g c.args.self.mild a) in
    (end_turn (most d g) _ c.loop-axis.axis-index c.loop-axis.span.hi c.rises-rises.result.hi c.loop-axis.invariant.1 c.loop-axis-test.true
    (ap (λ (r : Range). r.hi) w) (subst (λ (r : Range). Small 100000000 r.hi) (sym w) small.1)).0

pub loop-axis-preserved : goal.loop-axis-preserved
loop-axis-preserved c =
    let d = extents c.args.domain in
    let g = gradient c.args.self.slopes in
    let a = get_or axes c.loop-axis.axis-index X in
    let s = to_z-of_z w64 c.on-in-loop-axis.result (record { sfits = c.on-in-loop-axis.type_inv }) ∙ c.on-in-loop-axis.ensures in
    let w : c.rises-rises.result ≡ rises (d a) (g a) = c.rises-rises.ensures ∙ ap₂ rises c.on.ensures s in
    let small = rises_small (d a) (g a) (each_bounded d c.requires a) (each_mild g c.args.self.mild a) in (
      (end_turn (least d g) _ c.loop-axis.axis-index c.loop-axis.span.lo c.rises-rises.result.lo c.loop-axis.invariant.0 c.loop-axis-test.true
          (ap (λ (r : Range). r.lo) w) (subst (λ (r : Range). Small 100000000 r.lo) (sym w) small.0)).1,
      (end_turn (most d g) _ c.loop-axis.axis-index c.loop-axis.span.hi c.rises-rises.result.hi c.loop-axis.invariant.1 c.loop-axis-test.true
          (ap (λ (r : Range). r.hi) w) (subst (λ (r : Range). Small 100000000 r.hi) (sym w) small.1)).1,
    )
