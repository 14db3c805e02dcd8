use Rattle.std.proofs.Common.{◌≡◌, true, false, ◌-ℤ◌, pos, neg_ℤ, Some, w64, to_z, of_z, sym, ◌∙◌, subst, arith}
use Rattle.std.proofs.lemmas.Int.{ints}
use Rattle.parser.specs.Reads.{Ahead}
use Rattle.parser.proofs.Limits.{no_size, no_colon, colon}
use Rattle.parser.proofs.take.lower_end.Goals as goal

pub returns-in_err-number_of-clause-read : goal.returns-in_err-number_of-clause-read
returns-in_err-number_of-clause-read c =
    rw c.from_residual.ensures (no_size c.args.from.now c.eat-minus.new.from c.peek-t.result c.peek-t.ensures c.eat-minus.result c.eat-minus.ensures.read (sym c.number_of.ensures ∙ c.in_err-number_of.was))

pub returns-then-not-eat-clause-read : goal.returns-then-not-eat-clause-read
returns-then-not-eat-clause-read c =
    no_colon c.args.from.now c.eat-minus.new.from c.peek-t.result c.peek-t.ensures c.eat-minus.result c.eat-minus.ensures.read _ (sym c.number_of.ensures ∙ c.in_ok-number_of.was) c.eat.new.from c.if-not-eat.ensures.read

pub returns-then-minus-clause-read : goal.returns-then-minus-clause-read
returns-then-minus-clause-read c =
    let n = c.in_ok-number_of.field-0 in
    let e : to_z w64 (of_z w64 (pos 0 -ℤ to_z w64 (of_z w64 c.from-size.result))) ≡ neg_ℤ (pos n) = omega (arith, ints) in
    let h : Ahead c.args.from.now c.eat.new.from (Some (neg_ℤ (pos n))) = colon c.args.from.now c.eat-minus.new.from c.peek-t.result c.peek-t.ensures true c.if-minus.ensures.read n (sym c.number_of.ensures ∙ c.in_ok-number_of.was) c.eat.new.from c.if-not-eat.ensures.read in
    subst (λ v. Ahead c.args.from.now c.eat.new.from (Some v)) (sym e) h

pub returns-else-minus-clause-read : goal.returns-else-minus-clause-read
returns-else-minus-clause-read c =
    let n = c.in_ok-number_of.field-0 in
    let e : to_z w64 (of_z w64 c.from-size.result) ≡ pos n = omega (arith, ints) in
    let h : Ahead c.args.from.now c.eat.new.from (Some (pos n)) = colon c.args.from.now c.eat-minus.new.from c.peek-t.result c.peek-t.ensures false c.if-minus.ensures.read n (sym c.number_of.ensures ∙ c.in_ok-number_of.was) c.eat.new.from c.if-not-eat.ensures.read in
    subst (λ v. Ahead c.args.from.now c.eat.new.from (Some v)) (sym e) h
