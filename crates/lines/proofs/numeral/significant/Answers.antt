use Rattle.std.proofs.Common.{◌==◌, rules, arith}
use Rattle.lines.proofs.numeral.significant.Goals as goal

pub returns : goal.returns
returns c = let e = c.run.ensures.by_test (λ b. b == 48) (λ b r h k. search rules) in grind (arith, e)
