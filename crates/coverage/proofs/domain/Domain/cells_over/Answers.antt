use Rattle.std.proofs.Common.{◌≡◌, ℕ, ◌+◌, ◌*◌, min, get_or, drop, sym, ap, ◌∙◌, arith}
use native.Mathlib.Nat.{min-le_right}
use Rattle.std.proofs.lemmas.List.{at_drop_more}
use Rattle.coverage.specs.declared.axis.Axis.TheVariants.{X}
use Rattle.coverage.specs.Axes.{cells_over, extents, size_of}
use Rattle.coverage.proofs.Caps.{cap_turn}
use Rattle.coverage.proofs.domain.Domain.cells_over.Goals as goal

pub loop-axis-preserved : goal.loop-axis-preserved
loop-axis-preserved c =
    let n = c.loop-axis.n in
    let d = extents c.args.self in
    let list = c.args.axes.now in
    let i = c.loop-axis.axis-index in
    let size : c.places.result ≡ min (size_of (d (get_or list i X))) 65537 = c.places.ensures ∙ ap (λ r. min (size_of r) 65537) c.on.ensures in
    let new : c.min-n.result ≡ min (n * min (size_of (d (get_or list i X))) 65537) 65537 = c.min-n.ensures ∙ ap (λ s. min (n * s) 65537) size in
    let rest = cells_over (drop (i + 1) list) d in
    let now-is : min (c.min-n.result * rest) 65537 ≡ min (n * (size_of (d (get_or list i X)) * rest)) 65537 =
    ap (λ m. min (m * rest) 65537) new ∙ cap_turn 65537 n (size_of (d (get_or list i X))) rest in
    let F : _ → ℕ = λ l. cells_over l d in
    (now-is ∙ (sym (ap (λ m. min (n * m) 65537) (at_drop_more F list i X c.loop-axis-test.true)) ∙ c.loop-axis.invariant.0), omega (arith, c.min-n.ensures, min-le_right (n * c.places.result) 65537))
