use Rattle.language.proofs.Examples.{constructs_by_example}
use Rattle.language.proofs.laws.each_construct_gives_what_its_rule_says.Goals as goal

pub returns : goal.returns
returns c = constructs_by_example
