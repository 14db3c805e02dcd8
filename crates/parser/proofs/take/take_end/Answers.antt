use Rattle.std.proofs.Common.{ap}
use Rattle.lexer.specs.Tokens.{tok}
use Rattle.parser.proofs.See.{arm}
use Rattle.parser.proofs.Takes.{no_end}
use Rattle.parser.proofs.take.take_end.Goals as goal

pub returns-in-End-clause-read : goal.returns-in-End-clause-read
returns-in-End-clause-read c = λ js st. arm c.next-t.ensures.next (ap tok c.in-End.is) _ st

pub returns-in_default-clause-read : goal.returns-in_default-clause-read
returns-in_default-clause-read c = no_end c.next-t.ensures.next c.in_default.not-End
