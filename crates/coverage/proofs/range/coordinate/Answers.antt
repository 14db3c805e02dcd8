use Rattle.std.proofs.Common.{◌≡◌, ◌%◌, ◌<◌, subst, mod-eq_of_lt, rules}
use Rattle.std.proofs.lemmas.Int.{ints}
use Rattle.coverage.specs.Axes.{size_of, width}
use Rattle.coverage.proofs.range.coordinate.Goals as goal

pub returns-in-Some : goal.returns-in-Some
returns-in-Some c =
    let r = c.in-Some.range in
    let h : c.args.k < width r = subst (λ a. c.args.k < size_of a) c.in-Some.is c.requires.below in
    let m : c.args.k % width r ≡ c.args.k = mod-eq_of_lt h in
    search (rules, ints)
