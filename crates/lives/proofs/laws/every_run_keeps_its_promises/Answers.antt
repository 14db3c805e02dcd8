use Rattle.lives.proofs.Lives.{every_run_keeps_its_promises_lem}
use Rattle.lives.proofs.laws.every_run_keeps_its_promises.Goals as goal

pub returns : goal.returns
returns c = every_run_keeps_its_promises_lem
