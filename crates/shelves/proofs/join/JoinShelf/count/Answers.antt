use Rattle.std.proofs.Common.{◌+◌, min, ◌++◌, length, sym, ap, ◌∙◌, ap₂, length-append, length-take}
use native.Mathlib.Nat.{min_comm}
use Rattle.shelves.proofs.join.JoinShelf.count.Goals as goal

pub returns : goal.returns
returns g c =
    let a = g.A.Shelf.meaning c.args.self.now.first.now in
    let b = g.B.Shelf.meaning c.args.self.now.second.now in
    c.min.ensures ∙ (ap₂ (λ x y. min (x + y) 8) c.count.ensures c.count-2.ensures
    ∙ (min_comm (length a + length b) 8 ∙ (ap (min 8) (sym (length-append a b)) ∙ sym (length-take 8 (a ++ b)))))
