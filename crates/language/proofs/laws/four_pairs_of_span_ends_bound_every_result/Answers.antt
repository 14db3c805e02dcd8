use Rattle.language.proofs.Theorems.{four_pairs_bound_every_result}
use Rattle.language.proofs.laws.four_pairs_of_span_ends_bound_every_result.Goals as goal

pub returns : goal.returns
returns c = four_pairs_bound_every_result
