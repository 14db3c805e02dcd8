use Rattle.std.proofs.Common.{ℕ, ◌≤◌, ℤ, pos, ◌*ℤ◌, ◌≡◌, arith, to_z, unsigned_abs, w64, SFits, rules, lit<}
use Rattle.std.proofs.lemmas.Int.{ints, fits_signed_mul, to_z-of_z, to_z_pos}
use Rattle.language.specs.Limits.{most_cells, widest}
use Rattle.spans.proofs.shapes.times.Goals as goal

-- a number of cells times a value
fits : (n : ℕ) (v : ℤ) → n ≤ most_cells → unsigned_abs v ≤ widest → SFits w64 (pos n *ℤ v)
fits n v few small = fits_signed_mul w64 (pos n) v most_cells widest few small (lit< tt)

pub overflow_mul-result : goal.overflow_mul-result
overflow_mul-result c =
    let n : to_z w64 c.args.n ≡ pos c.args.n = to_z_pos w64 c.args.n (omega (arith, c.requires.few)) in
    let l : SFits w64 c.args.a.range.lo = search rules in
    rw (n, to_z-of_z w64 c.args.a.range.lo l) (fits c.args.n c.args.a.range.lo c.requires.few (omega (arith, ints)))

pub returns : goal.returns
returns c =
    let n : to_z w64 c.args.n ≡ pos c.args.n = to_z_pos w64 c.args.n (omega (arith, c.requires.few)) in
    let low = fits c.args.n c.args.a.range.lo c.requires.few (omega (arith, ints)) in
    let high = fits c.args.n c.args.a.range.hi c.requires.few (omega (arith, ints)) in
    search (arith, ints, to_z-of_z, n)
