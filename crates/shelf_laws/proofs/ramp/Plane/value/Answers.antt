use Rattle.std.proofs.Common.{◌≡◌, get_or, sym, refl, ap, ◌∙◌, subst, ap₂, arith, rules, w64, SFits}
use Rattle.std.proofs.lemmas.Int.{to_z-of_z}
use Rattle.coverage.specs.declared.axis.Axis.TheVariants.{X}
use Rattle.coverage.specs.Axes.{axes, coordinates, extents, on_axis}
use Rattle.coverage.specs.Limits.{axis_bounded}
use Rattle.coverage.proofs.Points.{each, inside_from}
use Rattle.shelf_laws.specs.Ramp.{gradient, is_mild, rise, rise_at}
use Rattle.shelf_laws.proofs.Products.{Small}
use Rattle.shelf_laws.proofs.Ramps.{each_bounded, each_mild, rise_small, sum_ends, sum_starts, sum_turn}
use Rattle.shelf_laws.proofs.ramp.Plane.value.Goals as goal

pub loop-axis-init : goal.loop-axis-init
loop-axis-init c =
    let off = c.args.self.offset in
    let f : SFits w64 off = search rules in
    rw (to_z-of_z w64 off f) (sum_starts (rise_at (extents c.args.domain) (gradient c.args.self.slopes) (coordinates c.args.at)) off axes c.args.self.near)

pub rise-v-requires : goal.rise-v-requires
rise-v-requires c =
    let d = extents c.args.domain in
    let a = get_or axes c.loop-axis.axis-index X in
    let s = to_z-of_z w64 c.on-in-loop-axis.result (record { sfits = c.on-in-loop-axis.type_inv }) ∙ c.on-in-loop-axis.ensures in
    let v = to_z-of_z w64 c.on-in-loop-axis-2.result (record { sfits = c.on-in-loop-axis-2.type_inv }) ∙ c.on-in-loop-axis-2.ensures in
    record {
      bounded = ap axis_bounded c.on.ensures ∙ each_bounded d c.requires.bounded a;
      on = ap₂ on_axis c.on.ensures v ∙ each (λ b. on_axis (d b) (coordinates c.args.at b)) c.requires.inside a;
      mild = ap is_mild s ∙ each_mild (gradient c.args.self.slopes) c.args.self.mild a;
    }

pub overflow_add-v : goal.overflow_add-v
overflow_add-v c =
    let d = extents c.args.domain in
    let g = gradient c.args.self.slopes in
    let p = coordinates c.args.at in
    let a = get_or axes c.loop-axis.axis-index X in
    let s = to_z-of_z w64 c.on-in-loop-axis.result (record { sfits = c.on-in-loop-axis.type_inv }) ∙ c.on-in-loop-axis.ensures in
    let v = to_z-of_z w64 c.on-in-loop-axis-2.result (record { sfits = c.on-in-loop-axis-2.type_inv }) ∙ c.on-in-loop-axis-2.ensures in
    let w : c.rise-v.result ≡ rise_at d g p a = c.rise-v.ensures ∙ (ap₂ (rise c.on.result) s v ∙ ap (λ r. rise r (g a) (p a)) c.on.ensures) in
    let small = rise_small (d a) (g a) (p a) (each_bounded d c.requires.bounded a) (inside_from d p c.requires.inside a) (each_mild g c.args.self.mild a) in
    (sum_turn (rise_at d g p) _ c.loop-axis.axis-index _ c.rise-v.result _ _ c.loop-axis.invariant c.loop-axis-test.true w (subst (Small 100000000) (sym w) small)
    refl (to_z-of_z w64 c.rise-v.result (record { sfits = c.rise-v.type_inv }))).0

pub loop-axis-preserved : goal.loop-axis-preserved
loop-axis-preserved c =
    let d = extents c.args.domain in
    let g = gradient c.args.self.slopes in
    let p = coordinates c.args.at in
    let a = get_or axes c.loop-axis.axis-index X in
    let s = to_z-of_z w64 c.on-in-loop-axis.result (record { sfits = c.on-in-loop-axis.type_inv }) ∙ c.on-in-loop-axis.ensures in
    let v = to_z-of_z w64 c.on-in-loop-axis-2.result (record { sfits = c.on-in-loop-axis-2.type_inv }) ∙ c.on-in-loop-axis-2.ensures in
    let w : c.rise-v.result ≡ rise_at d g p a = c.rise-v.ensures ∙ (ap₂ (rise c.on.result) s v ∙ ap (λ r. rise r (g a) (p a)) c.on.ensures) in
    let small = rise_small (d a) (g a) (p a) (each_bounded d c.requires.bounded a) (inside_from d p c.requires.inside a) (each_mild g c.args.self.mild a) in
    (sum_turn (rise_at d g p) _ c.loop-axis.axis-index _ c.rise-v.result _ _ c.loop-axis.invariant c.loop-axis-test.true w (subst (Small 100000000) (sym w) small)
    refl (to_z-of_z w64 c.rise-v.result (record { sfits = c.rise-v.type_inv }))).1

pub returns : goal.returns
returns c =
    sum_ends (rise_at (extents c.args.domain) (gradient c.args.self.slopes) (coordinates c.args.at)) _ axes c.loop-axis.axis-index _ c.loop-axis.invariant (omega arith)
