-- What the reader of items with commas between them ensures.
use Rattle.std.specs.Prelude.{◌≡◌, ℕ, ◌<◌, ◌≤◌, ◌⊎◌, true, false, List, [], ◌∷◌, ◌++◌, length, Ok, Err, Result, Option}
use Rattle.std.specs.Fn.{Shared}
use Rattle.std.specs.Borrow.{MutBor}
use Rattle.cursor.specs.declared.cursor.Cursor.{Cursor}
use Rattle.syntax.specs.Tree.{Binding}
use Rattle.lexer.specs.declared.symbol.Symbol.TheVariants.{Comma}
use Rattle.parser.specs.declared.node.Few.{Few}
use Rattle.parser.specs.declared.node.Iteration.{Iteration}
use Rattle.parser.specs.declared.node.Binding as node
use Rattle.parser.specs.Actions.{St, empty, filled, iteration, iterations_of, binding, bindings_of}
use Rattle.parser.specs.Machine.{Item, refused, iterator, iterators}
use Rattle.parser.specs.Machine as machine
use Rattle.parser.specs.Reads.{on, Eaten}

-- ---- by a reader of one item

-- a call of f may read r, from old to new
pub record Gives {F T : Type 0} (g : Shared F (MutBor Cursor × Unit {0}) (Result T ℕ × (MutBor Cursor × Unit {0}))) (f : F) (old new : Cursor) (r : Result T ℕ) : Type 0 where
  pub shown : MutBor Cursor
  pub left : MutBor Cursor
  pub met : g.post f (shown, tt) (r, (left, tt))
  pub shows : shown.now ≡ old
  pub leaves : left.now ≡ new

module _ {T : Type 0} (R : Cursor → Cursor → Result T ℕ → Type 0) where
  -- items, each after a comma
  abbrev pub Chain : Cursor → Cursor → List T → Type 0
  Chain old new [] = old ≡ new
  Chain old new (x ∷ xs) = (a : Cursor) × (b : Cursor) × Eaten Comma old a true × R a b (Ok x) × Chain b new xs

  -- so many that the slots are full, or no comma comes
  pub record Filled (was is : List (Option T)) (old new : Cursor) : Type 0 where
    pub more : List T
    pub chain : Chain old new more
    pub few : length more ≤ length was
    pub same : is ≡ filled more was
    pub over : length more < length was → Eaten Comma new new false

  -- a comma after fewer, and then no item: p is the place
  pub record Broken (was : List (Option T)) (old new : Cursor) (p : ℕ) : Type 0 where
    pub more : List T
    pub last : Cursor
    pub due : Cursor
    pub chain : Chain old last more
    pub few : length more < length was
    pub comma : Eaten Comma last due true
    pub missed : R due new (Err p)

  abbrev pub Fills : List (Option T) → List (Option T) → Cursor → Cursor → Result (Unit {0}) ℕ → Type 0
  Fills was is old new (Ok u) = Filled was is old new
  Fills was is old new (Err p) = Broken was old new p

  -- an item, and at most n more
  abbrev pub Several : (n : ℕ) → Cursor → Cursor → Result (Few T n) ℕ → Type 0
  Several n old new (Ok r) = (second : Cursor) × R old second (Ok r.first) × Filled (empty n) r.more second new
  Several n old new (Err p) = R old new (Err p) ⊎ ((second : Cursor) × (x : T) × R old second (Ok x) × Broken (empty n) second new p)

-- ---- on the stack

-- what is read is a, kept as `keep a`; an item is due, or was read, where k more may come
module _ {A T H : Type 0} (keep : A → T) (due after : ℕ → H → List A → Item) where
  pub record OneItem (old new : Cursor) (r : T) : Type 0 where
    pub what : A
    pub same : keep what ≡ r
    pub forward : old.at < new.at
    pub turns : (k : ℕ) (h : H) (js : List A) (s : List Item) (st : St) → on old (due k h js ∷ s) st ≡ on new (after k h (js ++ (what ∷ [])) ∷ s) st

  abbrev pub ItemRead : Cursor → Cursor → Result T ℕ → Type 0
  ItemRead old new (Ok r) = OneItem old new r
  ItemRead old new (Err p) = (k : ℕ) (h : H) (js : List A) (s : List Item) (st : St) → on old (due k h js ∷ s) st ≡ refused p

-- all items, at most n after the first: no more may come
module _ {A T H : Type 0} (n : ℕ) (gather : List A → Few T n) (due after : ℕ → H → List A → Item) where
  pub record AllItems (old new : Cursor) (r : Few T n) : Type 0 where
    pub what : List A
    pub same : gather what ≡ r
    pub forward : old.at < new.at
    pub turns : (h : H) (s : List Item) (st : St) → on old (due n h [] ∷ s) st ≡ on new (after 0 h what ∷ s) st

  abbrev pub AllRead : Cursor → Cursor → Result (Few T n) ℕ → Type 0
  AllRead old new (Ok r) = AllItems old new r
  AllRead old new (Err p) = (h : H) (s : List Item) (st : St) → on old (due n h [] ∷ s) st ≡ refused p

-- ---- iterators and bindings

abbrev pub a_binding : ℕ → Unit {0} → List Binding → Item
a_binding k h js = machine.binding k js

abbrev pub some_bindings : ℕ → Unit {0} → List Binding → Item
some_bindings k h js = machine.bindings k js

abbrev pub IteratorRead : Cursor → Cursor → Result Iteration ℕ → Type 0
IteratorRead = ItemRead iteration iterator iterators

abbrev pub AllIterators : Cursor → Cursor → Few Iteration 2 → Type 0
AllIterators = AllItems 2 iterations_of iterator iterators

abbrev pub IteratorsRead : Cursor → Cursor → Result (Few Iteration 2) ℕ → Type 0
IteratorsRead = AllRead 2 iterations_of iterator iterators

abbrev pub BindingRead : Cursor → Cursor → Result node.Binding ℕ → Type 0
BindingRead = ItemRead binding a_binding some_bindings

abbrev pub BindingsRead : Cursor → Cursor → Result (Few node.Binding 3) ℕ → Type 0
BindingsRead = AllRead 3 bindings_of a_binding some_bindings
