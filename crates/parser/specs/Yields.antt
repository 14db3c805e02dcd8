-- What an expression's text yields: its tree, the byte where the text begins, and how deep expressions
-- stand within it. Every construct is marked with the byte where its text begins.
use Rattle.std.specs.Prelude.{ℕ, ◌+◌, max, Bool, List, [], ◌∷◌, drop, slice_index_or}
use Rattle.coverage.specs.declared.axis.Axis.{Axis}
use Rattle.coverage.specs.declared.range.Range.{Range}
use Rattle.syntax.specs.Tree.{Word, Iterator, Expr}
use Rattle.syntax.specs.Tree as tree
use Rattle.syntax.specs.declared.Unary.{Unary}
use Rattle.syntax.specs.declared.Unary.TheVariants as unary
use Rattle.syntax.specs.declared.Binary.{Binary}
use Rattle.syntax.specs.declared.Fold.{Fold}
use Rattle.parser.specs.declared.roles.Function.{Function}
use Rattle.parser.specs.declared.roles.Function.TheVariants.{Abs, Over}
use Rattle.parser.specs.Actions.{Placing, Leaf, number, truth, named, iterating, Action, leaf, prefix, apply, join, trim, slice, condense, pick, cover, wrap}

pub record Yield : Type 0 where
  pub tree : Expr
  pub place : ℕ
  -- 0 where no expression stands within
  pub inner : ℕ

-- a construct whose text begins at p
abbrev pub begun : ℕ → Expr → ℕ → Yield
begun p e d = record { tree = tree.at p e; place = p; inner = d }

-- a numeral, a truth word or a name
abbrev pub leaf_tree : Leaf → Expr
leaf_tree (number n) = tree.numeral n
leaf_tree (truth b) = tree.truth b
leaf_tree (named w) = tree.name w
leaf_tree (iterating w) = tree.iterator w

abbrev pub yield_leaf : ℕ → Leaf → Yield
yield_leaf p l = begun p (leaf_tree l) 0

-- a prefix at p
abbrev pub prefixed : ℕ → Unary → Yield → Yield
prefixed p u y = begun p (tree.unary u y.tree) y.inner

abbrev pub function_tree : Function → Expr → Expr
function_tree Abs e = tree.unary unary.Abs e
function_tree (Over r) e = tree.reduce r e

-- a function at p, of an expression in round brackets
abbrev pub functioned : ℕ → Function → Yield → Yield
functioned p f y = begun p (function_tree f y.tree) (y.inner + 1)

-- an operator begins where its left operand does
abbrev pub joined : Binary → Yield → Yield → Yield
joined o a b = begun a.place (tree.binary o a.tree b.tree) (max a.inner b.inner)

-- an entry begins where that which it is applied to does
abbrev pub trimmed : Bool → Axis → Range → Yield → Yield
trimmed g x r a = begun a.place (tree.trim g x r a.tree) a.inner

abbrev pub sliced : Bool → Axis → Yield → Yield → Yield
sliced g x a b = begun a.place (tree.slice g x a.tree b.tree) (max a.inner (b.inner + 1))

abbrev pub iterators : List Placing → List Iterator
iterators [] = []
iterators (i ∷ is) = i.iterator ∷ iterators is

-- forms at p, of their iterators and the expressions in them
abbrev pub condensed : ℕ → Fold → List Placing → Yield → Yield
condensed p f is b = begun p (tree.condense f (iterators is) b.tree) (b.inner + 1)

abbrev pub picked : ℕ → Fold → List Placing → Yield → Yield → Yield
picked p f is w b = begun p (tree.condense_where f (iterators is) w.tree b.tree) (max w.inner b.inner + 1)

abbrev pub covered : ℕ → List Placing → Yield → Yield
covered p is b = begun p (tree.form (iterators is) b.tree) (b.inner + 1)

-- round brackets make no construct: the text begins at the open one, and the expression stands deeper
abbrev pub wrapped : ℕ → Yield → Yield
wrapped p y = record { tree = y.tree; place = p; inner = y.inner + 1 }

abbrev nothing : Yield
nothing = record { tree = tree.numeral 0; place = 0; inner = 0 }

abbrev pub last : List Yield → Yield
last ys = slice_index_or ys 0 nothing

abbrev pub before : List Yield → Yield
before ys = slice_index_or ys 1 nothing

-- the actions, told of what was read so far, the last first
abbrev pub mean : Action → List Yield → List Yield
mean (leaf p l) ys = yield_leaf p l ∷ ys
mean (prefix p u) ys = prefixed p u (last ys) ∷ drop 1 ys
mean (apply p f) ys = functioned p f (last ys) ∷ drop 1 ys
mean (join o) ys = joined o (before ys) (last ys) ∷ drop 2 ys
mean (trim g x r) ys = trimmed g x r (last ys) ∷ drop 1 ys
mean (slice g x) ys = sliced g x (before ys) (last ys) ∷ drop 2 ys
mean (condense p f is) ys = condensed p f is (last ys) ∷ drop 1 ys
mean (pick p f is) ys = picked p f is (before ys) (last ys) ∷ drop 2 ys
mean (cover p is) ys = covered p is (last ys) ∷ drop 1 ys
mean (wrap p) ys = wrapped p (last ys) ∷ drop 1 ys
