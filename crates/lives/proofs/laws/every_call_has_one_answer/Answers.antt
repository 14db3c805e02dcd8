use Rattle.lives.proofs.OneAnswer.{every_call_has_one_answer_lem}
use Rattle.lives.proofs.laws.every_call_has_one_answer.Goals as goal

pub returns : goal.returns
returns c = every_call_has_one_answer_lem
