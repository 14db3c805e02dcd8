use Rattle.std.proofs.Common.{◌<◌, length, refl, arith, rules}
use Rattle.lines.specs.Numerals.{is_digit}
use Rattle.lines.proofs.Runs.{Run, no_digits, some_digits, digits_count}
use Rattle.lines.proofs.pieces.digits.Goals as goal
use Rattle.lines.proofs.pieces.digits.Goals.{After-run-digits}

run : (c : After-run-digits) → Run is_digit c.run-digits.result.now c.args.from.now c.run-digits.new.self
run c = record { text = c.run-digits.ensures.text; part = c.run-digits.ensures.run; bytes = c.run-digits.ensures.rest; end = c.run-digits.ensures.by_test is_digit (λ b r h k. search rules) }

pub returns-then-is_empty-clause-read : goal.returns-then-is_empty-clause-read
returns-then-is_empty-clause-read c = no_digits (run (goal.at.returns-then-is_empty-clause-read c).After-run-digits) (grind arith)

pub returns-clause-read : goal.returns-clause-read
returns-clause-read c =
    let r = run (goal.at.returns-clause-read c).After-run-digits in
    let h : 0 < length c.run-digits.result.now = grind arith in
    (_, some_digits r h, (digits_count r h, refl))
