use Rattle.parser.proofs.Derived.{texts_say_what_the_grammar_derives_lem}
use Rattle.parser.proofs.laws.texts_say_what_the_grammar_derives.Goals as goal

pub returns : goal.returns
returns c = texts_say_what_the_grammar_derives_lem
