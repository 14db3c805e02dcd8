-- After an iterator or a binding: a comma and one more, or none.
use Rattle.std.proofs.Common.{◌≡◌, ℕ, zero, suc, true, false, cond, List, ◌∷◌, refl}
use Rattle.syntax.specs.Tree.{Binding}
use Rattle.lexer.specs.declared.symbol.Symbol.TheVariants.{Comma, Return}
use Rattle.cursor.specs.declared.cursor.Cursor.{Cursor}
use Rattle.lexer.specs.Tokens.{Tok, tok}
use Rattle.parser.specs.Roles.{is}
use Rattle.parser.specs.Actions.{Action, Placing, St, build}
use Rattle.parser.specs.Machine.{Item, Head, moved, pops, bodies, when, returning, iterator, iterators, binding, bindings}
use Rattle.parser.specs.Reads.{on, Eaten}
use Rattle.parser.proofs.Takes.{ate, left}

pub past_iterators : {S : Type 0} (act : Action → S → S) (k : ℕ) (h : Head) (js : List Placing) (s : List Item) (st : S) (t : Tok) (p : ℕ) → is Comma t ≡ false → pops act (iterators k h js ∷ s) st t p ≡ bodies h js t st s
past_iterators act zero h js s st t p e = refl
past_iterators act (suc k) h js s st t p e = λ i. cond (e i) (moved (iterator k h js ∷ s) st) (bodies h js t st s)

pub past_bindings : {S : Type 0} (act : Action → S → S) (k : ℕ) (js : List Binding) (s : List Item) (st : S) (t : Tok) (p : ℕ) → is Comma t ≡ false → pops act (bindings k js ∷ s) st t p ≡ when (is Return t) (returning js s) st
past_bindings act zero js s st t p e = refl
past_bindings act (suc k) js s st t p e = λ i. cond (e i) (moved (binding k js ∷ s) st) (when (is Return t) (returning js s) st)

-- after an item and no comma
pub last_iterator : (old new : Cursor) → Eaten Comma old new false → (k : ℕ) (h : Head) (js : List Placing) (s : List Item) (st : St) → on old (iterators k h js ∷ s) st ≡ on new (iterators 0 h js ∷ s) st
last_iterator old new e k h js s st = left old new e _ st _ (λ _. refl) (past_iterators build k h js s st (tok e.next.token) e.next.place e.told)

pub last_binding : (old new : Cursor) → Eaten Comma old new false → (k : ℕ) (h : Unit {0}) (js : List Binding) (s : List Item) (st : St) → on old (bindings k js ∷ s) st ≡ on new (bindings 0 js ∷ s) st
last_binding old new e k h js s st = left old new e _ st _ (λ _. refl) (past_bindings build k js s st (tok e.next.token) e.next.place e.told)

-- after an item and a comma
pub next_iterator : (old new : Cursor) → Eaten Comma old new true → (k : ℕ) (h : Head) (js : List Placing) (s : List Item) (st : St) → on old (iterators (suc k) h js ∷ s) st ≡ on new (iterator k h js ∷ s) st
next_iterator old new e k h js s st = ate e _ st _ refl

pub next_binding : (old new : Cursor) → Eaten Comma old new true → (k : ℕ) (h : Unit {0}) (js : List Binding) (s : List Item) (st : St) → on old (bindings (suc k) js ∷ s) st ≡ on new (binding k js ∷ s) st
next_binding old new e k h js s st = ate e _ st _ refl
