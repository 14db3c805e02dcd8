use Rattle.std.proofs.Common.{◌≡◌, ◌-◌, ◌<◌, ◌≤◌, length, sym, ap, ◌∙◌, arith, rules}
use Rattle.shelf.specs.Faults.{told}
use Rattle.shelf.specs.Meaning.{strip_after, strip_answer}
use Rattle.shelf.proofs.Numbers.{renumbered_told}
use Rattle.shelf_laws.specs.Join.{joined}
use Rattle.shelf_laws.proofs.Joins.{strip_left, strip_right}
use Rattle.shelves.proofs.join.JoinReceivingShelf.strip.Goals as goal

pub returns-then-coverage-k : goal.returns-then-coverage-k
returns-then-coverage-k g c =
    let a = g.A.Shelf.meaning c.args.self.now.first.now in
    let b = g.B.Shelf.meaning c.args.self.now.second.now in
    let few = (g.A.Shelf.lawful c.args.self.now.first.now).at_most_eight in
    let lt : c.args.coverage < length a = omega (arith, c.count-k.ensures) in
    let r = strip_left a b c.args.coverage c.args.strip c.args.cells.now few lt in
    record { answer = c.strip.ensures.answer ∙ sym r.0; after = ap (λ m. joined m b) c.strip.ensures.after ∙ sym r.1 }

pub returns : goal.returns
returns g c =
    let a = g.A.Shelf.meaning c.args.self.now.first.now in
    let b = g.B.Shelf.meaning c.args.self.now.second.now in
    let k : c.count-k.result ≡ length a = c.count-k.ensures in
    let le : length a ≤ c.args.coverage = omega arith in
    let r = strip_right a b c.args.coverage c.args.strip c.args.cells.now c.if-coverage-ge-MOST.false le in
    let answer = c.strip-2.ensures.answer ∙ ap (λ i. strip_answer b (c.args.coverage - i) c.args.strip c.args.cells.now) k in
    let after = c.strip-2.ensures.after ∙ ap (λ i. strip_after b (c.args.coverage - i) c.args.strip c.args.cells.now) k in
    record {
      answer =
          renumbered_told _ c.strip-2.result c.map_err.result c.args.coverage c.args.strip c.map_err.ensures.cases (λ e f p. search rules)
          ∙ (ap (λ z. told z c.args.coverage c.args.strip) answer ∙ sym r.0);
      after = ap (joined a) after ∙ sym r.1;
    }
