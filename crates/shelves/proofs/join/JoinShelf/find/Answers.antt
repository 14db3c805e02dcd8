use Rattle.std.proofs.Common.{◌≡◌, ℕ, ◌+◌, ltb, cond, length, Some, None, Option, sym, ap, ◌∙◌, ap₂, arith, rules, lt-ltb}
use Rattle.std.specs.Bool.{then_some}
use Rattle.shelf.specs.Meaning.{find_answer}
use Rattle.shelf_laws.proofs.Finds.{below, moved, or_else, find_joined, find_lt, then_cond}
use Rattle.shelves.proofs.join.JoinShelf.find.Goals as goal

pub returns-in-Some : goal.returns-in-Some
returns-in-Some g c =
    let a = g.A.Shelf.meaning c.args.self.now.first.now in
    let b = g.B.Shelf.meaning c.args.self.now.second.now in
    let nm = c.args.name.now in
    let few = (g.A.Shelf.lawful c.args.self.now.first.now).at_most_eight in
    let S : ℕ → Option ℕ = λ i. Some i in
    let e : find_answer a nm ≡ S c.in-Some.i = sym c.in-Some.ensures in
    let l = find_lt a nm c.in-Some.i e in
    sym (find_joined a b nm ∙ (ap (λ o. below (or_else o (moved (find_answer b nm) (length a))) 8) e
    ∙ ap (λ t. cond t (S c.in-Some.i) None) (lt-ltb c.in-Some.i 8 (omega arith))))

pub returns-in_err-j : goal.returns-in_err-j
returns-in_err-j g c =
    let a = g.A.Shelf.meaning c.args.self.now.first.now in
    let b = g.B.Shelf.meaning c.args.self.now.second.now in
    let nm = c.args.name.now in
    let none : find_answer a nm ≡ None = sym c.in_default.ensures in
    let none' : find_answer b nm ≡ None = sym c.find-2.ensures ∙ c.in_err-j.was in
    let t = find_joined a b nm ∙ ap₂ (λ o p. below (or_else o (moved p (length a))) 8) none none' in
    c.from_residual.ensures ∙ sym t

pub overflow_add-k : goal.overflow_add-k
overflow_add-k g c =
    let few = (g.A.Shelf.lawful c.args.self.now.first.now).at_most_eight in
    let few' = (g.B.Shelf.lawful c.args.self.now.second.now).at_most_eight in
    let l = find_lt (g.B.Shelf.meaning c.args.self.now.second.now) c.args.name.now c.in_ok-j.j (sym c.find-2.ensures ∙ c.in_ok-j.was) in
    search rules

pub overflow_add-k-2 : goal.overflow_add-k-2
overflow_add-k-2 g c =
    let few = (g.A.Shelf.lawful c.args.self.now.first.now).at_most_eight in
    let few' = (g.B.Shelf.lawful c.args.self.now.second.now).at_most_eight in
    let l = find_lt (g.B.Shelf.meaning c.args.self.now.second.now) c.args.name.now c.in_ok-j.j (sym c.find-2.ensures ∙ c.in_ok-j.was) in
    search rules

pub returns : goal.returns
returns g c =
    let a = g.A.Shelf.meaning c.args.self.now.first.now in
    let b = g.B.Shelf.meaning c.args.self.now.second.now in
    let nm = c.args.name.now in
    let k : c.count-k.result ≡ length a = c.count-k.ensures in
    let S : ℕ → Option ℕ = λ i. Some i in
    let none : find_answer a nm ≡ None = sym c.in_default.ensures in
    let some : find_answer b nm ≡ S c.in_ok-j.j = sym c.find-2.ensures ∙ c.in_ok-j.was in
    let t = find_joined a b nm ∙ ap₂ (λ o p. below (or_else o (moved p (length a))) 8) none some in
    c.then_some.ensures ∙ (ap (λ i. then_some (ltb (i + c.in_ok-j.j) 8) (i + c.in_ok-j.j)) k ∙ (then_cond (ltb (length a + c.in_ok-j.j) 8) (length a + c.in_ok-j.j) ∙ sym t))
