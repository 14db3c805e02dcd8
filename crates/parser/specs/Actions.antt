-- What reading a text builds, step by step: each action makes a construct of the last values, or changes
-- the last one. It is told twice: of the table of nodes (`build`), and of trees (`mean`).
use Rattle.std.specs.Prelude.{ℕ, ◌+◌, min, max, Bool, List, [], ◌∷◌, length, map, replicate, drop, ℤ, pos, Some, None, Option, slice_index_or, slice_set}
use Rattle.coverage.specs.declared.axis.Axis.{Axis}
use Rattle.coverage.specs.declared.axis.Axis.TheVariants.{X}
use Rattle.coverage.specs.declared.range.Range.{Range}
use Rattle.syntax.specs.Tree.{Word, Iterator, Expr}
use Rattle.syntax.specs.Tree as tree
use Rattle.syntax.specs.declared.Unary.{Unary}
use Rattle.syntax.specs.declared.Unary.TheVariants as unary
use Rattle.syntax.specs.declared.Binary.{Binary}
use Rattle.syntax.specs.declared.Fold.{Fold}
use Rattle.parser.specs.declared.roles.Function.{Function}
use Rattle.parser.specs.declared.roles.Function.TheVariants.{Abs, Over}
use Rattle.parser.specs.declared.node.Part.{Part}
use Rattle.parser.specs.declared.node.Iteration.{Iteration}
use Rattle.parser.specs.declared.node.Binding.{Binding}
use Rattle.parser.specs.declared.node.Few.{Few}
use Rattle.parser.specs.declared.node.Construct.{Construct}
use Rattle.parser.specs.declared.node.Construct.TheVariants as construct
use Rattle.parser.specs.declared.node.Node.{Node}

-- an iterator and the place of its word
pub record Placing : Type 0 where
  pub iterator : Iterator
  pub place : ℕ

abbrev pub spanning : ℤ → ℤ → Range
spanning lo hi = record { lo = lo; hi = hi }

abbrev pub placing : Word → ℕ → Axis → Range → Placing
placing w p a r = record { iterator = record { word = w; axis = a; range = r }; place = p }

-- a `$` word and its place, a coverage's name and its place
abbrev pub bound : Word → ℕ → Word → ℕ → tree.Binding
bound w p v q = record { word = w; word_place = p; coverage = v; coverage_place = q }

-- what makes a construct without operands
pub data Leaf : Type 0 where
  number : ℕ → Leaf
  truth : Bool → Leaf
  named : Word → Leaf
  iterating : Word → Leaf

-- places are those of the first byte; entries and operators begin where their first operand does
pub data Action : Type 0 where
  leaf : ℕ → Leaf → Action
  prefix : ℕ → Unary → Action
  apply : ℕ → Function → Action
  join : Binary → Action
  trim : Bool → Axis → Range → Action
  slice : Bool → Axis → Action
  condense : ℕ → Fold → List Placing → Action
  pick : ℕ → Fold → List Placing → Action
  cover : ℕ → List Placing → Action
  -- round brackets, which begin at the open one
  wrap : ℕ → Action

-- ---- of the table of nodes

-- an expression that was read: its node, the byte where its text begins, and how deep expressions stand in it
pub record Val : Type 0 where
  pub root : ℕ
  pub place : ℕ
  pub inner : ℕ

abbrev pub val : ℕ → ℕ → ℕ → Val
val n p d = record { root = n; place = p; inner = d }

-- the values, the last first; how many nodes there are, also past the table's room; the table
pub record St : Type 0 where
  pub vals : List Val
  pub count : ℕ
  pub table : List Node

abbrev pub state : List Val → ℕ → List Node → St
state vs n tbl = record { vals = vs; count = n; table = tbl }

abbrev pub node : ℕ → Construct → Node
node p c = record { place = p; construct = c }

abbrev pub part : ℕ → ℕ → Part
part p n = record { place = p; length = n }

-- 12 stands for all depths from 12 on
abbrev pub deeper : ℕ → ℕ
deeper n = min (n + 1) 12

-- slots without items, and with the first of them filled
abbrev pub empty : {T : Type 0} → ℕ → List (Option T)
empty n = replicate n None

abbrev pub filled : {T : Type 0} → List T → List (Option T) → List (Option T)
filled [] os = os
filled (x ∷ xs) [] = []
filled (x ∷ xs) (o ∷ os) = Some x ∷ filled xs os

-- an item, and at most n more
abbrev pub few : {T : Type 0} → (n : ℕ) → T → List T → Few T n
few n x xs = record { first = x; more = filled xs (empty n) }

abbrev pub iteration : Placing → Iteration
iteration i = record { word = part i.place (length i.iterator.word); axis = i.iterator.axis; range = i.iterator.range }

-- a form has one to three iterators
abbrev pub iterations_of : List Placing → Few Iteration 2
iterations_of [] = few 2 (record { word = part 0 0; axis = X; range = record { lo = pos 0; hi = pos 0 } }) []
iterations_of (a ∷ is) = few 2 (iteration a) (map iteration is)

abbrev pub binding : tree.Binding → Binding
binding b = record { word = part (b.word_place + 1) (length b.word); coverage = part b.coverage_place (length b.coverage) }

-- a query has one to four bindings
abbrev pub bindings_of : List tree.Binding → Few Binding 3
bindings_of [] = few 3 (record { word = part 0 0; coverage = part 0 0 }) []
bindings_of (a ∷ bs) = few 3 (binding a) (map binding bs)

-- a `$` word's bytes begin after the `$`
abbrev pub leaf_at : ℕ → Leaf → Construct
leaf_at p (number n) = construct.Numeral n
leaf_at p (truth b) = construct.Truth b
leaf_at p (named w) = construct.Name (part (p + 1) (length w))
leaf_at p (iterating w) = construct.Iterator (part p (length w))

abbrev pub applied : Function → ℕ → Construct
applied Abs n = construct.Unary unary.Abs n
applied (Over r) n = construct.Reduce r n

-- one more node, over the values vs
abbrev pub made : ℕ → Construct → ℕ → List Val → St → St
made p c d vs st = state (val st.count p d ∷ vs) (st.count + 1) (slice_set st.table st.count (node p c))

abbrev pub top : St → Val
top st = slice_index_or st.vals 0 (val 0 0 0)

abbrev pub under : St → Val
under st = slice_index_or st.vals 1 (val 0 0 0)

abbrev pub build : Action → St → St
build (leaf p l) st = made p (leaf_at p l) 0 st.vals st
build (prefix p u) st = made p (construct.Unary u (top st).root) (top st).inner (drop 1 st.vals) st
build (apply p f) st = made p (applied f (top st).root) (deeper (top st).inner) (drop 1 st.vals) st
build (join o) st = made (under st).place (construct.Binary o (under st).root (top st).root) (max (under st).inner (top st).inner) (drop 2 st.vals) st
build (trim g a r) st = made (top st).place (construct.Trim g a r (top st).root) (top st).inner (drop 1 st.vals) st
build (slice g a) st = made (under st).place (construct.Slice g a (under st).root (top st).root) (max (under st).inner (deeper (top st).inner)) (drop 2 st.vals) st
build (condense p f is) st = made p (construct.Condense f (iterations_of is) (top st).root) (deeper (top st).inner) (drop 1 st.vals) st
build (pick p f is) st = made p (construct.CondenseWhere f (iterations_of is) (under st).root (top st).root) (deeper (max (under st).inner (top st).inner)) (drop 2 st.vals) st
build (cover p is) st = made p (construct.Form (iterations_of is) (top st).root) (deeper (top st).inner) (drop 1 st.vals) st
build (wrap p) st = state (val (top st).root p (deeper (top st).inner) ∷ drop 1 st.vals) st.count st.table
