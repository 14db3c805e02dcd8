use Rattle.language.proofs.Theorems.{reads_stay_within_the_promise_lem}
use Rattle.language.proofs.laws.reads_stay_within_the_promise.Goals as goal

pub returns : goal.returns
returns c = reads_stay_within_the_promise_lem
