-- The tree that a table of nodes stands for. A node's operands stand before it.
use Rattle.std.specs.Prelude.{◌≡◌, ℕ, ◌+◌, ◌-◌, ◌<◌, ◌≤◌, List, [], ◌∷◌, ◌++◌, map, take, drop, pos, neg_ℤ, ◌≤ℤ◌, Some, None, Option, slice_index_or}
use Rattle.std.specs.List.{AllByRecursion}
use Rattle.syntax.specs.Tree.{Word, Iterator, Expr, Query}
use Rattle.syntax.specs.Tree as tree
use Rattle.parser.specs.declared.node.Part.{Part}
use Rattle.parser.specs.declared.node.Iteration.{Iteration}
use Rattle.parser.specs.declared.node.Binding.{Binding}
use Rattle.parser.specs.declared.node.Few.{Few}
use Rattle.parser.specs.declared.node.Construct.{Construct}
use Rattle.parser.specs.declared.node.Construct.TheVariants as construct
use Rattle.parser.specs.declared.node.Node.{Node}
use Rattle.parser.specs.declared.text.Reading.{Reading}

-- the bytes of a part of the text
abbrev pub spelt : List ℕ → Part → Word
spelt bs w = take w.length (drop w.place bs)

abbrev pub iterator_of : List ℕ → Iteration → Iterator
iterator_of bs i = record { word = spelt bs i.word; axis = i.axis; range = i.range }

-- the items that slots hold
abbrev pub held : {T : Type 0} → List (Option T) → List T
held [] = []
held (None ∷ xs) = held xs
held (Some x ∷ xs) = x ∷ held xs

abbrev pub items : {T : Type 0} {n : ℕ} → Few T n → List T
items f = f.first ∷ held f.more

abbrev pub iterators_of : List ℕ → Few Iteration 2 → List Iterator
iterators_of bs is = map (iterator_of bs) (items is)

-- a `$` word is told at its `$`, the byte before the word
abbrev pub bound_of : List ℕ → Binding → tree.Binding
bound_of bs b = record { word = spelt bs b.word; word_place = b.word.place - 1; coverage = spelt bs b.coverage; coverage_place = b.coverage.place }

abbrev pub all_bound : List ℕ → Few Binding 3 → List tree.Binding
all_bound bs cs = map (bound_of bs) (items cs)

-- the tree of node k, where the trees of earlier nodes are es
abbrev pub tree_at : List Expr → ℕ → Expr
tree_at es k = slice_index_or es k (tree.numeral 0)

-- a construct, over the trees of earlier nodes
abbrev pub tree_of : List ℕ → List Expr → Construct → Expr
tree_of bs es (construct.Numeral n) = tree.numeral n
tree_of bs es (construct.Truth b) = tree.truth b
tree_of bs es (construct.Name w) = tree.name (spelt bs w)
tree_of bs es (construct.Iterator w) = tree.iterator (spelt bs w)
tree_of bs es (construct.Unary u a) = tree.unary u (tree_at es a)
tree_of bs es (construct.Reduce r a) = tree.reduce r (tree_at es a)
tree_of bs es (construct.Binary o a b) = tree.binary o (tree_at es a) (tree_at es b)
tree_of bs es (construct.Trim g x r a) = tree.trim g x r (tree_at es a)
tree_of bs es (construct.Slice g x a b) = tree.slice g x (tree_at es a) (tree_at es b)
tree_of bs es (construct.Condense f is a) = tree.condense f (iterators_of bs is) (tree_at es a)
tree_of bs es (construct.CondenseWhere f is a b) = tree.condense_where f (iterators_of bs is) (tree_at es a) (tree_at es b)
tree_of bs es (construct.Form is a) = tree.form (iterators_of bs is) (tree_at es a)

-- node by node
abbrev pub trees : List ℕ → List Expr → List Node → List Expr
trees bs es [] = es
trees bs es (n ∷ ns) = trees bs (es ++ (tree.at n.place (tree_of bs es n.construct) ∷ [])) ns

-- how many constructs a tree has
abbrev pub constructs : Expr → ℕ
constructs (tree.at p e) = constructs e
constructs (tree.numeral n) = 1
constructs (tree.truth b) = 1
constructs (tree.name w) = 1
constructs (tree.iterator w) = 1
constructs (tree.unary u a) = constructs a + 1
constructs (tree.binary o a b) = constructs a + constructs b + 1
constructs (tree.reduce r a) = constructs a + 1
constructs (tree.trim g x r a) = constructs a + 1
constructs (tree.slice g x a b) = constructs a + constructs b + 1
constructs (tree.condense f is a) = constructs a + 1
constructs (tree.condense_where f is a b) = constructs a + constructs b + 1
constructs (tree.form is a) = constructs a + 1

-- node k of a table; past its end a blank one
abbrev pub node_at : List Node → ℕ → Node
node_at table k = slice_index_or table k (record { place = 0; construct = construct.Numeral 0 })

-- the trees of the first n nodes of a table, and the tree of node k
abbrev pub trees_in : List ℕ → List Node → ℕ → List Expr
trees_in bs table n = trees bs [] (take n table)

abbrev pub tree_in : List ℕ → List Node → ℕ → ℕ → Expr
tree_in bs table n k = tree_at (trees_in bs table n) k

-- the operands of node k are earlier nodes
abbrev pub Earlier : ℕ → Construct → Type 0
Earlier k (construct.Numeral n) = Unit {0}
Earlier k (construct.Truth b) = Unit {0}
Earlier k (construct.Name w) = Unit {0}
Earlier k (construct.Iterator w) = Unit {0}
Earlier k (construct.Unary u a) = a < k
Earlier k (construct.Reduce r a) = a < k
Earlier k (construct.Binary o a b) = (a < k) × (b < k)
Earlier k (construct.Trim g x r a) = a < k
Earlier k (construct.Slice g x a b) = (a < k) × (b < k)
Earlier k (construct.Condense f is a) = a < k
Earlier k (construct.CondenseWhere f is a b) = (a < k) × (b < k)
Earlier k (construct.Form is a) = a < k

-- the ends of an iterator's range reach no further than 2147483647 on both sides
abbrev pub SmallIteration : Iteration → Type 0
SmallIteration i = (neg_ℤ (pos 2147483647) ≤ℤ i.range.lo) × (i.range.hi ≤ℤ pos 2147483647)

abbrev pub SmallIterations : Few Iteration 2 → Type 0
SmallIterations is = AllByRecursion SmallIteration (items is)

-- numerals and ends of ranges of iterators reach no further than 2147483647 on both sides
abbrev pub SmallConstruct : Construct → Type 0
SmallConstruct (construct.Numeral n) = n ≤ 2147483647
SmallConstruct (construct.Truth b) = Unit {0}
SmallConstruct (construct.Name w) = Unit {0}
SmallConstruct (construct.Iterator w) = Unit {0}
SmallConstruct (construct.Unary u a) = Unit {0}
SmallConstruct (construct.Reduce r a) = Unit {0}
SmallConstruct (construct.Binary o a b) = Unit {0}
SmallConstruct (construct.Trim g x r a) = Unit {0}
SmallConstruct (construct.Slice g x a b) = Unit {0}
SmallConstruct (construct.Condense f is a) = SmallIterations is
SmallConstruct (construct.CondenseWhere f is a b) = SmallIterations is
SmallConstruct (construct.Form is a) = SmallIterations is

-- a well-formed table of n nodes
pub record WellFormed (table : List Node) (n : ℕ) : Type 0 where
  pub earlier : (k : ℕ) → k < n → Earlier k (node_at table k).construct
  pub small : (k : ℕ) → k < n → SmallConstruct (node_at table k).construct

-- a table stands for a query
pub record StandsFor (bs : List ℕ) (table : List Node) (r : Reading) (q : Query) : Type 0 where
  pub bindings : all_bound bs r.bindings ≡ q.bindings
  pub body : tree_in bs table r.count r.root ≡ q.body
  pub root_there : r.root < r.count
  pub few : r.count ≤ 64
  pub well_formed : WellFormed table r.count
