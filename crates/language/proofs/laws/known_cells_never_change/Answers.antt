use Rattle.language.proofs.Theorems.{known_cells_never_change_lem}
use Rattle.language.proofs.laws.known_cells_never_change.Goals as goal

pub returns : goal.returns
returns c = known_cells_never_change_lem
