use Rattle.std.proofs.Common.{sym, subst}
use Rattle.parser.specs.Reads.{Eaten}
use Rattle.parser.proofs.Takes.{eaten}
use Rattle.parser.proofs.take.eat.Goals as goal

pub returns-clause-read : goal.returns-clause-read
returns-clause-read c = subst (Eaten _ _ _) (sym c.is_ok.ensures.value) (eaten _ _ _ c.expect.result c.expect.ensures.next)
