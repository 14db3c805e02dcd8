use Rattle.language.proofs.Theorems.{answers_depend_only_on_cells_inside_lem}
use Rattle.language.proofs.laws.answers_depend_only_on_cells_inside.Goals as goal

pub returns : goal.returns
returns c = answers_depend_only_on_cells_inside_lem
