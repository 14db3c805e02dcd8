use Rattle.std.proofs.Common.{◌≡◌, ◌+◌, ◌*◌, min, get_or, sym, ap, ◌∙◌, subst, arith, rules}
use native.Mathlib.Nat.{min-eq_left}
use Rattle.coverage.specs.declared.axis.Axis.TheVariants.{X}
use Rattle.coverage.specs.Axes.{coordinates, extents, size_of, step_of}
use Rattle.coverage.proofs.Turns.{Counted, room, counts_on}
use Rattle.coverage.proofs.domain.Domain.number_over.Goals as goal

pub step-requires : goal.step-requires
step-requires c =
    let r = room c.args.axes.now (extents c.args.self) (coordinates c.args.p) c.loop-axis.axis-index c.requires.inside c.requires.few c.loop-axis-test.true c.loop-axis.n c.loop-axis.stride c.loop-axis.invariant in
    record { inside = c.requires.inside (get_or c.args.axes.now c.loop-axis.axis-index X); few = r.0 }

pub overflow_mul-n : goal.overflow_mul-n
overflow_mul-n c =
    let list = c.args.axes.now in
    let d = extents c.args.self in
    let p = coordinates c.args.p in
    let i = c.loop-axis.axis-index in
    let a = get_or list i X in
    let r = room list d p i c.requires.inside c.requires.few c.loop-axis-test.true c.loop-axis.n c.loop-axis.stride c.loop-axis.invariant in
    let k = counts_on list d p i c.requires.inside c.requires.few c.loop-axis-test.true c.loop-axis.n c.loop-axis.stride c.loop-axis.invariant in
    let e : c.loop-axis.stride * c.step.result ≡ c.loop-axis.stride * step_of (d a) (p a) = ap (λ s. c.loop-axis.stride * s) c.step.ensures in
    let b = k.below in
    search rules

pub overflow_add-n : goal.overflow_add-n
overflow_add-n c =
    let list = c.args.axes.now in
    let d = extents c.args.self in
    let p = coordinates c.args.p in
    let i = c.loop-axis.axis-index in
    let a = get_or list i X in
    let r = room list d p i c.requires.inside c.requires.few c.loop-axis-test.true c.loop-axis.n c.loop-axis.stride c.loop-axis.invariant in
    let k = counts_on list d p i c.requires.inside c.requires.few c.loop-axis-test.true c.loop-axis.n c.loop-axis.stride c.loop-axis.invariant in
    let e : c.loop-axis.stride * c.step.result ≡ c.loop-axis.stride * step_of (d a) (p a) = ap (λ s. c.loop-axis.stride * s) c.step.ensures in
    let b = k.below in
    search rules

pub overflow_mul-stride : goal.overflow_mul-stride
overflow_mul-stride c =
    let list = c.args.axes.now in
    let d = extents c.args.self in
    let p = coordinates c.args.p in
    let i = c.loop-axis.axis-index in
    let a = get_or list i X in
    let r = room list d p i c.requires.inside c.requires.few c.loop-axis-test.true c.loop-axis.n c.loop-axis.stride c.loop-axis.invariant in
    let k = counts_on list d p i c.requires.inside c.requires.few c.loop-axis-test.true c.loop-axis.n c.loop-axis.stride c.loop-axis.invariant in
    let w : c.places-stride.result ≡ size_of (d a) = c.places-stride.ensures ∙ (ap (λ x. min (size_of x) 65537) c.on.ensures ∙ min-eq_left (omega (arith, r.0))) in
    let e : c.loop-axis.stride * c.places-stride.result ≡ c.loop-axis.stride * size_of (d a) = ap (λ s. c.loop-axis.stride * s) w in
    search rules

pub loop-axis-preserved : goal.loop-axis-preserved
loop-axis-preserved c =
    let list = c.args.axes.now in
    let d = extents c.args.self in
    let p = coordinates c.args.p in
    let i = c.loop-axis.axis-index in
    let a = get_or list i X in
    let r = room list d p i c.requires.inside c.requires.few c.loop-axis-test.true c.loop-axis.n c.loop-axis.stride c.loop-axis.invariant in
    let k = counts_on list d p i c.requires.inside c.requires.few c.loop-axis-test.true c.loop-axis.n c.loop-axis.stride c.loop-axis.invariant in
    let w : size_of (d a) ≡ c.places-stride.result = sym (c.places-stride.ensures ∙ (ap (λ x. min (size_of x) 65537) c.on.ensures ∙ min-eq_left (omega (arith, r.0)))) in
    subst (λ s. Counted list d p (i + 1) (c.loop-axis.n + c.loop-axis.stride * s) (c.loop-axis.stride * c.places-stride.result)) (sym c.step.ensures)
    (subst (λ w. Counted list d p (i + 1) (c.loop-axis.n + c.loop-axis.stride * step_of (d a) (p a)) (c.loop-axis.stride * w)) w k)
