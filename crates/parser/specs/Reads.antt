-- What each part of the reader ensures that builds no nodes: how far the stack gets by it.
use Rattle.std.specs.Prelude.{◌≡◌, ℕ, ◌+◌, ◌<◌, ◌≤◌, Bool, true, false, List, [], ◌∷◌, ◌++◌, length, Some, None, Ok, Err, Option, Result, ℤ, cond}
use Rattle.coverage.specs.declared.axis.Axis.{Axis}
use Rattle.cursor.specs.declared.cursor.Cursor.{Cursor}
pub use Rattle.cursor.specs.Moves.{GoesOn}
use Rattle.syntax.specs.Tree.{Word, Binding}
use Rattle.syntax.specs.declared.Fold.{Fold}
use Rattle.lexer.specs.declared.symbol.Symbol.{Symbol}
use Rattle.lexer.specs.declared.symbol.Symbol.TheVariants.{Close}
use Rattle.lexer.specs.declared.symbol.Symbol.TheVariants as the
use Rattle.lexer.specs.declared.token.Lexed.{Lexed}
use Rattle.lexer.specs.Tokens.{Tok, tok}
use Rattle.lexer.specs.Toks.{Placed, toks, consed, is_end, Peeked}
use Rattle.parser.specs.declared.node.Part.{Part}
use Rattle.parser.specs.declared.roles.Operator.{Operator}
use Rattle.parser.specs.declared.take.Start.{Start}
use Rattle.parser.specs.declared.take.Start.TheVariants.{Condense, Coverage, Chain}
use Rattle.parser.specs.Roles.{is, operator_of, between}
use Rattle.parser.specs.Actions.{St, spanning, part, build, slice}
use Rattle.parser.specs.Machine.{Item, Use, Edge, upper, trims, used, Verdict, accepted, refused, ends, verdict, must, bound, follows, arg, expr, acts}

-- what comes of a stack and a state from a place on
abbrev pub on : Cursor → List Item → St → Verdict St
on c s st = verdict build (length c.text.now) s st (toks c.text.now c.at)

-- ---- single tokens

-- the next token is the symbol, and was passed, or is another, and was not
pub record Eaten (w : Symbol) (old new : Cursor) (r : Bool) : Type 0 where
  pub next : Lexed
  pub peeked : Peeked old.text.now old.at next
  pub told : is w (tok next.token) ≡ r
  pub moved : new ≡ cond r next.next old

-- the same with the token's place
abbrev pub Stood : Symbol → Cursor → Cursor → Result ℕ ℕ → Type 0
Stood w old new (Ok p) = (e : Eaten w old new true) × (e.next.place ≡ p)
Stood w old new (Err p) = (e : Eaten w old new false) × (e.next.place ≡ p)

-- an expression begins with the word of a form, which was passed, or as a chain
abbrev pub Starts : Cursor → Cursor → Start → Type 0
Starts old new (Condense p) = (e : Eaten the.Condense old new true) × (e.next.place ≡ p)
Starts old new (Coverage p) = (e : Eaten the.Coverage old new true) × (e.next.place ≡ p)
Starts old new Chain = (e : Eaten the.Coverage old new false) × (is the.Condense (tok e.next.token) ≡ false)

-- the next token is one that f reads
pub record Taken (A R : Type 0) (f : Tok → Option A) (keep : A → ℕ → R) (old new : Cursor) (r : R) : Type 0 where
  pub token : Tok
  pub place : ℕ
  pub value : A
  pub text : new.text.now ≡ old.text.now
  pub tokens : toks old.text.now old.at ≡ (token, place) ∷ toks new.text.now new.at
  pub reads : f token ≡ Some value
  pub same : keep value place ≡ r
  pub forward : old.at < new.at

-- the next token, or the end of the text at p, is none
pub record Missed (A : Type 0) (f : Tok → Option A) (old : Cursor) (p : ℕ) : Type 0 where
  pub token : Tok
  pub rest : List Placed
  pub tokens : toks old.text.now old.at ≡ consed token p rest
  pub none : f token ≡ None
  pub at_end : is_end token ≡ true → p ≡ length old.text.now

abbrev pub TakenAs : {A R : Type 0} → (Tok → Option A) → (A → ℕ → R) → Cursor → Cursor → Result R ℕ → Type 0
TakenAs {A} {R} f keep old new (Ok r) = Taken A R f keep old new r
TakenAs {A} {R} f keep old new (Err p) = Missed A f old p

-- what is kept of a token
abbrev pub as_axis : Axis → ℕ → Axis
as_axis a p = a

abbrev pub as_fold : Fold → ℕ → Fold
as_fold f p = f

abbrev pub as_number : ℕ → ℕ → ℕ
as_number n p = n

abbrev pub as_word : Word → ℕ → Part
as_word w p = part p (length w)

abbrev pub as_variable : Word → ℕ → Part
as_variable w p = part (p + 1) (length w)

-- ---- what builds nothing

-- the items x, read from old to new, leave the items y
pub record Passes (x y : List Item) (old new : Cursor) : Type 0 where
  pub forward : old.at ≤ new.at
  pub turns : (s : List Item) (st : St) → on old (x ++ s) st ≡ on new (y ++ s) st

-- they cannot be read: p is the place
abbrev pub Stops : List Item → Cursor → ℕ → Type 0
Stops x old p = (s : List Item) (st : St) → on old (x ++ s) st ≡ refused p

abbrev pub Expected : Symbol → Cursor → Cursor → Result ℕ ℕ → Type 0
Expected w old new (Ok p) = Passes (must w ∷ []) [] old new × (old.at < new.at)
Expected w old new (Err p) = Stops (must w ∷ []) old p

-- the end of a query
abbrev pub Ended : Cursor → Result (Unit {0}) ℕ → Type 0
Ended old (Ok u) = (js : List Binding) (st : St) → on old (ends js ∷ []) st ≡ accepted js st
Ended old (Err p) = (js : List Binding) (st : St) → on old (ends js ∷ []) st ≡ refused p

-- an end of a range
pub record Bounded (old new : Cursor) (v : ℤ) : Type 0 where
  pub forward : old.at < new.at
  pub turns : (e : Edge) (s : List Item) (st : St) → on old (bound e ∷ s) st ≡ on new (follows e v s) st

abbrev pub LimitRead : Cursor → Cursor → Result ℤ ℕ → Type 0
LimitRead old new (Ok v) = Bounded old new v
LimitRead old new (Err p) = (e : Edge) (s : List Item) (st : St) → on old (bound e ∷ s) st ≡ refused p

-- the upper end of a range, and its bracket
pub record RangeEnded (old new : Cursor) (v : ℤ) : Type 0 where
  pub forward : old.at < new.at
  pub turns : (u : Use) (lo : ℤ) (s : List Item) (st : St) → on old (bound (upper u lo) ∷ s) st ≡ on new (used u (spanning lo v) ∷ s) st

abbrev pub RangeEnds : Cursor → Cursor → Result ℤ ℕ → Type 0
RangeEnds old new (Ok v) = RangeEnded old new v
RangeEnds old new (Err p) = (u : Use) (lo : ℤ) (s : List Item) (st : St) → on old (bound (upper u lo) ∷ s) st ≡ refused p

-- ---- operators and ranges ahead

-- past the token if there is an operator
abbrev pub climbed : Option Operator → Cursor → Cursor → Cursor
climbed (Some o) next old = next
climbed None next old = old

-- what comes next is an operator of these levels, and was passed, or is none
pub record Climbs (lowest top : ℕ) (old new : Cursor) (r : Option Operator) : Type 0 where
  pub next : Lexed
  pub peeked : Peeked old.text.now old.at next
  pub told : r ≡ between lowest top (operator_of (tok next.token))
  pub moved : new ≡ climbed r next.next old

-- whether a range lies ahead, or else an expression
abbrev pub Ahead : Cursor → Cursor → Option ℤ → Type 0
Ahead old new (Some v) = (g : Bool) (a : Axis) → Passes (arg g a ∷ []) (bound (upper (trims g a) v) ∷ []) old new
Ahead old new None = (g : Bool) (a : Axis) → Passes (arg g a ∷ []) (expr ∷ must Close ∷ acts (slice g a) ∷ []) old new
