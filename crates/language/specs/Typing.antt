-- What the check works out of each part of a query: its domain, its kind, and its promise for a cell.
-- All three are told of every tree; that they are meant is what Faults decides.
use Rattle.std.specs.Prelude.{ℕ, ◌+◌, ◌*◌, cond, pos, Some, None, Option}
use Rattle.coverage.specs.declared.range.Range.{Range}
use Rattle.coverage.specs.declared.kind.Kind.{Kind}
use Rattle.coverage.specs.declared.kind.Kind.TheVariants.{Truth, Number}
use Rattle.coverage.specs.Axes.{Extents, no_extents, set_axis, no_axes, cells}
use Rattle.syntax.specs.Tree.{Word, Expr, at, numeral, truth, name, iterator, unary, binary, reduce, trim, slice, condense, condense_where, form}
use Rattle.language.specs.Spans.{number, unary_kind, binary_kind, fold_kind, widened, reduce_kind}
use Rattle.language.specs.Iterators.{Ranges, iterator_extents, bind_ranges}

-- what is said of a coverage that a word stands for
pub record About : Type 0 where
  pub extents : Extents
  pub kind : Kind

-- what words stand for: `$` words in a query, names on a shelf; none where unbound
abbrev pub Described : Type 0
Described = Word → Option About

-- the domain of what a word stands for
abbrev pub named_extents : Option About → Extents
named_extents None = no_extents
named_extents (Some a) = a.extents

-- and its kind
abbrev pub named_kind : Option About → Kind
named_kind None = Truth
named_kind (Some a) = a.kind

-- an iterator is a number of the span that it goes through
abbrev pub iterator_kind : Option Range → Kind
iterator_kind None = Truth
iterator_kind (Some r) = Number r

-- two operands: where one has no axes, the result has the other's domain
abbrev pub joint_extents : Extents → Extents → Extents
joint_extents d e a = cond (no_axes d) (e a) (d a)

module _ (about : Described) where
  -- the domain: a trim shortens its axis, a slice takes it away, a coverage form has its iterators',
  -- functions but `abs` and condense forms have no axes
  abbrev pub domain_of : Expr → Extents
  domain_of (at place e) = domain_of e
  domain_of (numeral n) = no_extents
  domain_of (truth b) = no_extents
  domain_of (name w) = named_extents (about w)
  domain_of (iterator w) = no_extents
  domain_of (unary o e) = domain_of e
  domain_of (binary o d e) = joint_extents (domain_of d) (domain_of e)
  domain_of (reduce r e) = no_extents
  domain_of (trim twice a r e) = set_axis (domain_of e) a (Some r)
  domain_of (slice twice a e q) = set_axis (domain_of e) a None
  domain_of (condense o is e) = no_extents
  domain_of (condense_where o is w e) = no_extents
  domain_of (form is e) = iterator_extents is

  -- the kind, with the iterators in use around
  abbrev pub kind_of : Ranges → Expr → Kind
  kind_of g (at place e) = kind_of g e
  kind_of g (numeral n) = number (pos n) (pos n)
  kind_of g (truth b) = Truth
  kind_of g (name w) = named_kind (about w)
  kind_of g (iterator w) = iterator_kind (g w)
  kind_of g (unary o e) = unary_kind o (kind_of g e)
  kind_of g (binary o d e) = binary_kind o (kind_of g d) (kind_of g e)
  kind_of g (reduce r e) = reduce_kind r (cells (domain_of e)) (kind_of g e)
  kind_of g (trim twice a r e) = kind_of g e
  kind_of g (slice twice a e q) = kind_of g e
  kind_of g (condense o is e) = fold_kind o (cells (iterator_extents is)) (kind_of (bind_ranges is g) e)
  kind_of g (condense_where o is w e) = widened o (fold_kind o (cells (iterator_extents is)) (kind_of (bind_ranges is g) e))
  kind_of g (form is e) = kind_of (bind_ranges is g) e

  -- the promise: how many looks at cells the answer of one cell may take at most
  abbrev pub promise_of : Expr → ℕ
  promise_of (at place e) = promise_of e
  promise_of (numeral n) = 0
  promise_of (truth b) = 0
  promise_of (name w) = 1
  promise_of (iterator w) = 0
  promise_of (unary o e) = promise_of e
  promise_of (binary o d e) = promise_of d + promise_of e
  promise_of (reduce r e) = cells (domain_of e) * promise_of e
  promise_of (trim twice a r e) = promise_of e
  promise_of (slice twice a e q) = promise_of e + promise_of q
  promise_of (condense o is e) = cells (iterator_extents is) * promise_of e
  promise_of (condense_where o is w e) = cells (iterator_extents is) * (promise_of w + promise_of e)
  promise_of (form is e) = promise_of e
