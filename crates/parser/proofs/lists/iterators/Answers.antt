use Rattle.std.proofs.Common.{refl}
use Rattle.parser.specs.Actions.{iteration, iterations_of}
use Rattle.parser.specs.Machine.{iterator, iterators}
use Rattle.parser.specs.Reads.{GoesOn}
use Rattle.parser.specs.Lists.{IteratorRead}
use Rattle.parser.proofs.Commas.{next_iterator, last_iterator}
use Rattle.parser.proofs.Several.{by_calls, several_go, several_read}
use Rattle.parser.proofs.lists.iterators.Goals as goal

pub returns-clause-on : goal.returns-clause-on
returns-clause-on c = several_go _ (by_calls _ _ (λ a b r. GoesOn a b) (λ x y r m. m.0)) 2 _ _ _ c.several.ensures

pub returns-clause-read : goal.returns-clause-read
returns-clause-read c = several_read iteration iterator iterators _ (by_calls _ _ (λ a b r. GoesOn a b) (λ x y r m. m.0)) (by_calls _ _ IteratorRead (λ x y r m. m.1)) next_iterator last_iterator 2 iterations_of (λ x xs. refl) _ _ _ c.several.ensures
