use Rattle.language.proofs.Bound.{queries_see_only_what_they_bind_lem}
use Rattle.language.proofs.laws.queries_see_only_what_they_bind.Goals as goal

pub returns : goal.returns
returns c = queries_see_only_what_they_bind_lem
