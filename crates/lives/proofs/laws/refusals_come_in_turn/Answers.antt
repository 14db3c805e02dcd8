use Rattle.lives.proofs.Examples.{refusals_come_in_turn_lem}
use Rattle.lives.proofs.laws.refusals_come_in_turn.Goals as goal

pub returns : goal.returns
returns c = refusals_come_in_turn_lem
