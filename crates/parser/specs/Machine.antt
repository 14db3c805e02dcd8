-- How a text is read token by token: a stack of what is still due, and a state that actions change. The
-- stack alone decides what may come, so a token that may not come is the first with which no query begins.
use Rattle.std.specs.Prelude.{ℕ, zero, suc, Bool, cond, List, [], ◌∷◌, ◌++◌, drop, ℤ, pos, neg_ℤ, Some, None, Option, ◌==◌}
use Rattle.coverage.specs.declared.axis.Axis.{Axis}
use Rattle.coverage.specs.declared.range.Range.{Range}
use Rattle.syntax.specs.Tree.{Word, Binding}
use Rattle.syntax.specs.declared.Unary.TheVariants as unary
use Rattle.syntax.specs.declared.Fold.{Fold}
use Rattle.lexer.specs.declared.symbol.Symbol.{Symbol}
use Rattle.lexer.specs.declared.symbol.Symbol.TheVariants.{For, In, Return, Encode, Rows, Condense, Coverage, Over, Where, Using, Values, Open, Close, OpenSquare, CloseSquare, Comma, Colon, Minus}
use Rattle.lexer.specs.Tokens.{Tok, word, variable, numeral, symbol, bad, end}
use Rattle.lexer.specs.Toks.{Placed}
use Rattle.parser.specs.declared.roles.Opening.{Opening}
use Rattle.parser.specs.declared.roles.Opening.TheVariants as opens
use Rattle.parser.specs.Axes.{Seen, axis_of, none_seen, holds, marks}
use Rattle.parser.specs.Roles.{is, opening, fold_of, join_of, number_of, word_of, variable_of}
use Rattle.parser.specs.Actions.{Placing, Leaf, number, truth, named, iterating, Action, leaf, prefix, apply, join, trim, slice, condense, pick, cover, wrap, placing, spanning}
use Rattle.parser.specs.Actions as actions

-- the form that iterators are for: a condense form with its sign, or a coverage form; and where it begins
pub data Head : Type 0 where
  condensing : ℕ → Fold → Head
  covering : ℕ → Head

-- what a range is for: a trim, or an iterator after others, with how many more there may be
pub data Use : Type 0 where
  trims : Bool → Axis → Use
  iterates : ℕ → Head → List Placing → Word → ℕ → Axis → Use

-- the end of a range that is due
pub data Edge : Type 0 where
  lower : Use → Edge
  upper : Use → ℤ → Edge

-- what may be due
pub data Item : Type 0 where
  -- an expression; an operand; further operators of a level; square brackets
  expr : Item
  operand : Item
  tail : ℕ → Item
  subsets : Item
  -- an entry of a square bracket, and what comes after one
  entry : Seen → Item
  entries : Seen → Item
  -- what an entry has in its round brackets: a range or a position. A numeral, and one after a minus, are
  -- held back until the next token tells which; with a colon, the k items after it are not due any more
  arg : Bool → Axis → Item
  arg_minus : Bool → Axis → ℕ → Item
  arg_numeral : Bool → Axis → ℤ → ℕ → ℕ → ℕ → Item
  -- the end of a range, and one after its minus
  bound : Edge → Item
  bound_minus : Edge → Item
  -- the sign of a condense form that begins at a place
  sign : ℕ → Item
  -- an iterator: its word, then its axis; and what comes after one
  iterator : ℕ → Head → List Placing → Item
  iterator_axis : ℕ → Head → List Placing → Word → ℕ → Item
  iterators : ℕ → Head → List Placing → Item
  -- a binding: its `$` word, then its coverage; and what comes after one
  binding : ℕ → List Binding → Item
  binding_name : ℕ → List Binding → Word → ℕ → Item
  bindings : ℕ → List Binding → Item
  -- a symbol; any word
  must : Symbol → Item
  any_word : Item
  -- an action
  acts : Action → Item
  -- the end of the query
  ends : List Binding → Item

pub data Moved (S : Type 0) : Type 0 where
  stuck : Moved S
  moved : List Item → S → Moved S

-- k levels, from n on
abbrev pub ladder : ℕ → ℕ → List Item
ladder zero n = []
ladder (suc k) n = tail n ∷ ladder k (suc n)

-- all levels
abbrev pub levels : List Item
levels = ladder 6 0

-- after an operator of level n come more of that level, but of comparisons there is only one
abbrev pub again : ℕ → List Item → List Item
again n s = cond (n == 2) s (tail n ∷ s)

-- a range that was read
abbrev pub used : Use → Range → Item
used (trims g a) r = acts (trim g a r)
used (iterates k h js w p a) r = iterators k h (js ++ (placing w p a r ∷ []))

abbrev pub follows : Edge → ℤ → List Item → List Item
follows (lower u) v s = must Colon ∷ bound (upper u v) ∷ s
follows (upper u lo) v s = must Close ∷ used u (spanning lo v) ∷ s

-- what is due after the sign of a form that is known: its iterators
abbrev pub iterating2 : Head → List Item → List Item
iterating2 h s = must Over ∷ iterator 2 h [] ∷ s

-- the end of a query after its bindings
abbrev pub returning : List Binding → List Item → List Item
returning bs s = must Encode ∷ must Open ∷ expr ∷ must Comma ∷ must Rows ∷ must Close ∷ ends bs ∷ s

-- on with what was found, or not at all
abbrev pub given : {A S : Type 0} → Option A → (A → Moved S) → Moved S
given (Some a) f = f a
given None f = stuck

-- on with what was found, or otherwise
abbrev pub either : {A S : Type 0} → Option A → (A → Moved S) → Moved S → Moved S
either (Some a) f m = f a
either None f m = m

abbrev pub when : {S : Type 0} → Bool → List Item → S → Moved S
when b s st = cond b (moved s st) stuck

-- an operand that begins with a symbol
abbrev pub opened : {S : Type 0} → (Action → S → S) → Opening → ℕ → S → List Item → Moved S
opened act opens.Round p st s = moved (expr ∷ must Close ∷ acts (wrap p) ∷ subsets ∷ s) st
opened act (opens.Truth b) p st s = moved (subsets ∷ s) (act (leaf p (truth b)) st)
opened act (opens.Prefix u) p st s = moved (operand ∷ acts (prefix p u) ∷ s) st
opened act (opens.Function f) p st s = moved (must Open ∷ expr ∷ must Close ∷ acts (apply p f) ∷ subsets ∷ s) st

-- an operand's first token, with s due after the operand
abbrev pub begins : {S : Type 0} → (Action → S → S) → Tok → ℕ → S → List Item → Moved S
begins act (word w) p st s = moved (subsets ∷ s) (act (leaf p (iterating w)) st)
begins act (variable w) p st s = moved (subsets ∷ s) (act (leaf p (named w)) st)
begins act (numeral n) p st s = moved (subsets ∷ s) (act (leaf p (number n)) st)
begins act (symbol x) p st s = given (opening x) (λ o. opened act o p st s)
begins act bad p st s = stuck
begins act end p st s = stuck

-- an expression's first token
abbrev pub starts : {S : Type 0} → (Action → S → S) → Tok → ℕ → S → List Item → Moved S
starts act t p st s =
    cond (is Condense t) (moved (sign p ∷ s) st)
    (cond (is Coverage t) (moved (any_word ∷ iterating2 (covering p) s) st)
    (begins act t p st (levels ++ s)))

-- after the iterators of a form
abbrev pub bodies : {S : Type 0} → Head → List Placing → Tok → S → List Item → Moved S
bodies (condensing p f) js t st s =
    cond (is Where t) (moved (expr ∷ must Using ∷ expr ∷ acts (pick p f js) ∷ s) st)
    (when (is Using t) (expr ∷ acts (condense p f js) ∷ s) st)
bodies (covering p) js t st s = when (is Values t) (expr ∷ acts (cover p js) ∷ s) st

-- one token at p
abbrev pub pops : {S : Type 0} → (Action → S → S) → List Item → S → Tok → ℕ → Moved S
pops act [] st t p = stuck
pops act (expr ∷ s) st t p = starts act t p st s
pops act (operand ∷ s) st t p = begins act t p st s
pops act (tail n ∷ s) st t p = either (join_of n t) (λ o. moved (operand ∷ (ladder n 0 ++ (acts (join o) ∷ again n s))) st) (pops act s st t p)
pops act (subsets ∷ s) st t p = cond (is OpenSquare t) (moved (entry none_seen ∷ subsets ∷ s) st) (pops act s st t p)
pops act (entry e ∷ s) st t p = given (axis_of t) (λ a. moved (must Open ∷ arg (holds e a) a ∷ entries (marks e a) ∷ s) st)
pops act (entries e ∷ s) st t p = cond (is Comma t) (moved (entry e ∷ s) st) (when (is CloseSquare t) s st)
pops act (arg g a ∷ s) st t p =
    either (number_of t) (λ n. moved (arg_numeral g a (pos n) n p 9 ∷ subsets ∷ (levels ++ (must Close ∷ acts (slice g a) ∷ s))) st)
    (cond (is Minus t) (moved (arg_minus g a p ∷ must Close ∷ acts (slice g a) ∷ s) st)
    (starts act t p st (must Close ∷ acts (slice g a) ∷ s)))
pops act (arg_minus g a q ∷ s) st t p =
    either (number_of t) (λ n. moved (arg_numeral g a (neg_ℤ (pos n)) n p 10 ∷ subsets ∷ acts (prefix q unary.Minus) ∷ (levels ++ s)) st)
    (begins act t p st (acts (prefix q unary.Minus) ∷ (levels ++ s)))
pops act (arg_numeral g a v n q k ∷ s) st t p = cond (is Colon t) (moved (bound (upper (trims g a) v) ∷ drop k s) st) (pops act s (act (leaf q (number n)) st) t p)
pops act (bound e ∷ s) st t p = either (number_of t) (λ n. moved (follows e (pos n) s) st) (when (is Minus t) (bound_minus e ∷ s) st)
pops act (bound_minus e ∷ s) st t p = given (number_of t) (λ n. moved (follows e (neg_ℤ (pos n)) s) st)
pops act (sign q ∷ s) st t p = given (fold_of t) (λ f. moved (iterating2 (condensing q f) s) st)
pops act (iterator k h js ∷ s) st t p = given (word_of t) (λ w. moved (iterator_axis k h js w p ∷ s) st)
pops act (iterator_axis k h js w q ∷ s) st t p = given (axis_of t) (λ a. moved (must Open ∷ bound (lower (iterates k h js w q a)) ∷ s) st)
pops act (iterators zero h js ∷ s) st t p = bodies h js t st s
pops act (iterators (suc k) h js ∷ s) st t p = cond (is Comma t) (moved (iterator k h js ∷ s) st) (bodies h js t st s)
pops act (binding k bs ∷ s) st t p = given (variable_of t) (λ w. moved (must In ∷ must Open ∷ binding_name k bs w p ∷ s) st)
pops act (binding_name k bs w q ∷ s) st t p = given (word_of t) (λ v. moved (must Close ∷ bindings k (bs ++ (actions.bound w q v p ∷ [])) ∷ s) st)
pops act (bindings zero bs ∷ s) st t p = when (is Return t) (returning bs s) st
pops act (bindings (suc k) bs ∷ s) st t p = cond (is Comma t) (moved (binding k bs ∷ s) st) (when (is Return t) (returning bs s) st)
pops act (must x ∷ s) st t p = when (is x t) s st
pops act (any_word ∷ s) st t p = given (word_of t) (λ w. moved s st)
pops act (acts a ∷ s) st t p = pops act s (act a st) t p
pops act (ends bs ∷ s) st t p = stuck

pub data Verdict (S : Type 0) : Type 0 where
  accepted : List Binding → S → Verdict S
  refused : ℕ → Verdict S

-- the text ends here, at the byte p
abbrev pub finish : {S : Type 0} → (Action → S → S) → List Item → S → ℕ → Verdict S
finish act [] st p = accepted [] st
finish act (expr ∷ s) st p = refused p
finish act (operand ∷ s) st p = refused p
finish act (tail n ∷ s) st p = finish act s st p
finish act (subsets ∷ s) st p = finish act s st p
finish act (entry e ∷ s) st p = refused p
finish act (entries e ∷ s) st p = refused p
finish act (arg g a ∷ s) st p = refused p
finish act (arg_minus g a q ∷ s) st p = refused p
finish act (arg_numeral g a v n q k ∷ s) st p = finish act s (act (leaf q (number n)) st) p
finish act (bound e ∷ s) st p = refused p
finish act (bound_minus e ∷ s) st p = refused p
finish act (sign q ∷ s) st p = refused p
finish act (iterator k h js ∷ s) st p = refused p
finish act (iterator_axis k h js w q ∷ s) st p = refused p
finish act (iterators k h js ∷ s) st p = refused p
finish act (binding k bs ∷ s) st p = refused p
finish act (binding_name k bs w q ∷ s) st p = refused p
finish act (bindings k bs ∷ s) st p = refused p
finish act (must x ∷ s) st p = refused p
finish act (any_word ∷ s) st p = refused p
finish act (acts a ∷ s) st p = finish act s (act a st) p
finish act (ends bs ∷ s) st p = accepted bs st

abbrev pub onward : {S : Type 0} → (List Item → S → Verdict S) → ℕ → Moved S → Verdict S
onward f p stuck = refused p
onward f p (moved s st) = f s st

-- what comes of a stack and a state on these tokens, in a text of len bytes
unfoldable pub verdict : {S : Type 0} → (Action → S → S) → ℕ → List Item → S → List Placed → Verdict S
verdict act len s st [] = finish act s st len
verdict act len s st (x ∷ ts) = onward (λ s' st'. verdict act len s' st' ts) x.1 (pops act s st x.0 x.1)

-- what is due of a whole query
abbrev pub query : List Item
query = must For ∷ binding 3 [] ∷ []
