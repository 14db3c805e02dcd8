use Rattle.std.proofs.Common.{◌≡◌, drop}
use Rattle.lexer.specs.Numerals.{decimal}
use Rattle.lexer.proofs.numeral.small_value.Given as goal

abbrev pub invariant-loop-b : goal.invariant-loop-b
invariant-loop-b l = decimal l.value (drop l.b-index l.digits) ≡ decimal 0 l.digits
