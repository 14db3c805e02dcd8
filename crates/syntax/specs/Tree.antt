-- The tree of a query: what its text says once it is read.
use Rattle.std.specs.Prelude.{List, Bool, ℕ}
use Rattle.coverage.specs.declared.axis.Axis.{Axis}
use Rattle.coverage.specs.declared.range.Range.{Range}
use Rattle.syntax.specs.declared.Unary.{Unary}
use Rattle.syntax.specs.declared.Binary.{Binary}
use Rattle.syntax.specs.declared.Fold.{Fold}
use Rattle.syntax.specs.declared.Reduce.{Reduce}

-- a word, by its bytes
abbrev pub Word : Type 0
Word = List ℕ

-- an iterator: its word, its axis, and the coordinates that it goes through
pub record Iterator : Type 0 where
  pub word : Word
  pub axis : Axis
  pub range : Range

-- an expression
pub data Expr : Type 0 where
  -- the construct inside begins at this byte of the text
  at : ℕ → Expr → Expr
  numeral : ℕ → Expr
  truth : Bool → Expr
  -- a `$` word, by the bytes after the `$`
  name : Word → Expr
  -- an iterator's word, used as a value
  iterator : Word → Expr
  unary : Unary → Expr → Expr
  binary : Binary → Expr → Expr → Expr
  reduce : Reduce → Expr → Expr
  -- an entry of a square bracket, applied to the expression before it; the mark says that its axis
  -- stands earlier in the same bracket. A trim has a range, a slice the expression of its position, last here.
  trim : Bool → Axis → Range → Expr → Expr
  slice : Bool → Axis → Expr → Expr → Expr
  -- condense forms, without and with `where`, which stands before the body
  condense : Fold → List Iterator → Expr → Expr
  condense_where : Fold → List Iterator → Expr → Expr → Expr
  -- a coverage form; its own word has no effect
  form : List Iterator → Expr → Expr

-- a binding: the `$` word (without its `$`) and the coverage's name, each with its place
pub record Binding : Type 0 where
  pub word : Word
  pub word_place : ℕ
  pub coverage : Word
  pub coverage_place : ℕ

-- a whole query
pub record Query : Type 0 where
  pub bindings : List Binding
  pub body : Expr
