use Rattle.std.proofs.Common.{◌∙◌, arith}
use Rattle.lexer.proofs.Decimals.{too_large}
use Rattle.lexer.proofs.numeral.small_value.Goals as goal

pub returns-in_err-checked_mul : goal.returns-in_err-checked_mul
returns-in_err-checked_mul c =
    let h = c.in_err-checked_mul.ensures in
    c.from_residual.ensures ∙ too_large c.args.digits.now c.loop-b.b-index c.loop-b.value c.loop-b-test.true c.loop-b.invariant (omega (arith, h))

pub returns-in_err-value : goal.returns-in_err-value
returns-in_err-value c =
    let h = c.in_err-value.ensures in
    c.from_residual-in_err-value.ensures ∙ too_large c.args.digits.now c.loop-b.b-index c.loop-b.value c.loop-b-test.true c.loop-b.invariant (omega (arith, h))
