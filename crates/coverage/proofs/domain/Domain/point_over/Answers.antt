use Rattle.std.proofs.Common.{◌≡◌, ℕ, ◌+◌, ◌/◌, ◌%◌, ◌<◌, min, List, get_or, drop, ℤ, sym, ap, ◌∙◌, arith, rules}
use native.Mathlib.Nat.{min-eq_left}
use Rattle.std.proofs.lemmas.List.{at_drop_all}
use Rattle.coverage.specs.declared.axis.Axis.{Axis}
use Rattle.coverage.specs.declared.axis.Axis.TheVariants.{X}
use Rattle.coverage.specs.Axes.{coord_of, coordinates, extents, point_over, put, size_of}
use Rattle.coverage.proofs.Turns.{point_turn}
use Rattle.coverage.proofs.domain.Domain.point_over.Goals as goal

-- the divisor is not 0
places_some : (s k : ℕ) → 0 < s → k ≡ min s 65537 → 0 < k
places_some s k h e = search (rules, e)

pub loop-axis-preserved : goal.loop-axis-preserved
loop-axis-preserved c =
    let list = c.args.axes.now in
    let d = extents c.args.self in
    let i = c.loop-axis.axis-index in
    let a = get_or list i X in
    let q = coordinates c.loop-axis.p in
    let w : c.places-size.result ≡ size_of (d a) = c.places-size.ensures ∙ (ap (λ x. min (size_of x) 65537) c.on.ensures ∙ min-eq_left (omega (arith, (c.requires.sized a).1))) in
    let moved : (e : Axis) → coordinates c.raised-p.result e ≡ put q a (coord_of (d a) (c.loop-axis.n % size_of (d a)) (q a)) e =
    λ e. c.raised-p.ensures e ∙ ap (λ s. put q a (coord_of (d a) (c.loop-axis.n % s) (q a)) e) w in
    λ b. ap (λ s. point_over (drop (i + 1) list) d (c.loop-axis.n / s) (coordinates c.raised-p.result) b) w
    ∙ (point_turn list d i c.loop-axis.n q (coordinates c.raised-p.result) c.loop-axis-test.true c.requires.once moved b ∙ c.loop-axis.invariant b)

pub returns : goal.returns
returns c =
    λ b. let F : List Axis → ℤ = λ l. point_over l (extents c.args.self) c.loop-axis.n (coordinates c.loop-axis.p) b in
    sym (at_drop_all F c.args.axes.now c.loop-axis.axis-index c.loop-axis-test.false) ∙ c.loop-axis.invariant b
