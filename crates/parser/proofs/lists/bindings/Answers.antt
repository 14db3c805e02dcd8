use Rattle.std.proofs.Common.{refl}
use Rattle.parser.specs.Actions.{binding, bindings_of}
use Rattle.parser.specs.Reads.{GoesOn}
use Rattle.parser.specs.Lists.{BindingRead, a_binding, some_bindings}
use Rattle.parser.proofs.Commas.{next_binding, last_binding}
use Rattle.parser.proofs.Several.{by_calls, several_go, several_read}
use Rattle.parser.proofs.lists.bindings.Goals as goal

pub returns-clause-on : goal.returns-clause-on
returns-clause-on c = several_go _ (by_calls _ _ (λ a b r. GoesOn a b) (λ x y r m. m.0)) 3 _ _ _ c.several.ensures

pub returns-clause-read : goal.returns-clause-read
returns-clause-read c = several_read binding a_binding some_bindings _ (by_calls _ _ (λ a b r. GoesOn a b) (λ x y r m. m.0)) (by_calls _ _ BindingRead (λ x y r m. m.1)) next_binding last_binding 3 bindings_of (λ x xs. refl) _ _ _ c.several.ensures
