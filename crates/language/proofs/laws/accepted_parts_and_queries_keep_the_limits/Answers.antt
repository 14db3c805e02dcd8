use Rattle.language.proofs.Theorems.{accepted_keeps_the_limits}
use Rattle.language.proofs.laws.accepted_parts_and_queries_keep_the_limits.Goals as goal

pub returns : goal.returns
returns c = accepted_keeps_the_limits
