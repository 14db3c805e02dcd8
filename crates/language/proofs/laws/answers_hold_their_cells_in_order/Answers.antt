use Rattle.language.proofs.Answered.{answers_hold_their_cells}
use Rattle.language.proofs.laws.answers_hold_their_cells_in_order.Goals as goal

pub returns : goal.returns
returns c = answers_hold_their_cells
