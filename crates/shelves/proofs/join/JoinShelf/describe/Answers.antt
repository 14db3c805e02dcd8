use Rattle.std.proofs.Common.{◌≡◌, ◌-◌, ◌<◌, ◌≤◌, length, sym, ap, ◌∙◌, arith, rules}
use Rattle.shelf.specs.Faults.{told}
use Rattle.shelf.specs.Meaning.{describe_answer}
use Rattle.shelf.proofs.Numbers.{renumbered_told}
use Rattle.shelf_laws.proofs.Joins.{describe_left, describe_right}
use Rattle.shelves.proofs.join.JoinShelf.describe.Goals as goal

pub returns-then-coverage-k : goal.returns-then-coverage-k
returns-then-coverage-k g c =
    let a = g.A.Shelf.meaning c.args.self.now.first.now in
    let b = g.B.Shelf.meaning c.args.self.now.second.now in
    let few = (g.A.Shelf.lawful c.args.self.now.first.now).at_most_eight in
    let lt : c.args.coverage < length a = omega (arith, c.count-k.ensures) in
    c.describe.ensures ∙ sym (describe_left a b c.args.coverage few lt)

pub returns : goal.returns
returns g c =
    let a = g.A.Shelf.meaning c.args.self.now.first.now in
    let b = g.B.Shelf.meaning c.args.self.now.second.now in
    let k : c.count-k.result ≡ length a = c.count-k.ensures in
    let le : length a ≤ c.args.coverage = omega arith in
    renumbered_told _ c.describe-2.result c.map_err.result c.args.coverage 0 c.map_err.ensures.cases (λ e f p. search rules)
    ∙ (ap (λ z. told z c.args.coverage 0) (c.describe-2.ensures ∙ ap (λ i. describe_answer b (c.args.coverage - i)) k)
    ∙ sym (describe_right a b c.args.coverage c.if-coverage-ge-MOST.false le))
