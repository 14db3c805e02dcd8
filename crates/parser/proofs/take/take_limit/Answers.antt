use Rattle.std.proofs.Common.{◌≡◌, true, false, ◌-ℤ◌, pos, neg_ℤ, w64, to_z, of_z, sym, subst, arith}
use Rattle.std.proofs.lemmas.Int.{ints}
use Rattle.std.proofs.lemmas.Result.{err_from_is_err_and}
use Rattle.parser.specs.Reads.{Bounded}
use Rattle.parser.proofs.Limits.{no_limit, limit}
use Rattle.parser.proofs.take.take_limit.Goals as goal

pub returns-in_err-take_number-clause-read : goal.returns-in_err-take_number-clause-read
returns-in_err-take_number-clause-read c =
    let x = err_from_is_err_and c.from_residual.result c.from_residual.ensures.1 in
    rw (x.1, x.2) (no_limit c.args.from.now c.eat-minus.new.from c.eat-minus.result c.eat-minus.ensures.read _ c.in_err-take_number.ensures.read)

pub returns-then-minus-clause-read : goal.returns-then-minus-clause-read
returns-then-minus-clause-read c =
    let n = c.in_ok-take_number.field-0 in
    let e : to_z w64 (of_z w64 (pos 0 -ℤ to_z w64 (of_z w64 c.from-size.result))) ≡ neg_ℤ (pos n) = omega (arith, ints) in
    subst (Bounded _ _) (sym e) (limit c.args.from.now c.eat-minus.new.from c.take_number.new.from true c.if-minus.ensures.read n c.in_ok-take_number.ensures.read)

pub returns-else-minus-clause-read : goal.returns-else-minus-clause-read
returns-else-minus-clause-read c =
    let n = c.in_ok-take_number.field-0 in
    let e : to_z w64 (of_z w64 c.from-size.result) ≡ pos n = omega (arith, ints) in
    subst (Bounded _ _) (sym e) (limit c.args.from.now c.eat-minus.new.from c.take_number.new.from false c.if-minus.ensures.read n c.in_ok-take_number.ensures.read)
