use Rattle.language.proofs.Theorems.{quotients_drop_the_fraction_lem}
use Rattle.language.proofs.laws.quotients_drop_the_fraction.Goals as goal

pub returns : goal.returns
returns c = quotients_drop_the_fraction_lem
