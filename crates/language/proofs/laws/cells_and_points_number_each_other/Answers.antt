use Rattle.language.proofs.Theorems.{cells_and_points_number_each_other_lem}
use Rattle.language.proofs.laws.cells_and_points_number_each_other.Goals as goal

pub returns : goal.returns
returns c = cells_and_points_number_each_other_lem
