use Rattle.language.proofs.Theorems.{values_lie_in_their_span}
use Rattle.language.proofs.laws.values_lie_in_their_announced_span.Goals as goal

pub returns : goal.returns
returns c = values_lie_in_their_span
