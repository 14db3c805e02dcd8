use Rattle.lives.proofs.Examples.{worked_cases}
use Rattle.lives.proofs.laws.worked_cases_come_out_on_their_texts.Goals as goal

pub returns : goal.returns
returns c = worked_cases
