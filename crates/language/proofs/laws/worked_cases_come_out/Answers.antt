use Rattle.language.proofs.Examples.{worked_cases}
use Rattle.language.proofs.laws.worked_cases_come_out.Goals as goal

pub returns : goal.returns
returns c = worked_cases
