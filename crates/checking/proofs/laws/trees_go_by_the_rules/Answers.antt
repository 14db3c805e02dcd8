use Rattle.checking.proofs.Keeps.{rules_keep_the_limits}
use Rattle.checking.proofs.laws.trees_go_by_the_rules.Goals as goal

pub returns-clause-limits : goal.returns-clause-limits
returns-clause-limits c = rules_keep_the_limits
