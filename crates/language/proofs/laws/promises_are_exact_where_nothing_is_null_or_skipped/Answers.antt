use Rattle.language.proofs.Theorems.{nothing_null_reads_the_promise}
use Rattle.language.proofs.laws.promises_are_exact_where_nothing_is_null_or_skipped.Goals as goal

pub returns : goal.returns
returns c = nothing_null_reads_the_promise
