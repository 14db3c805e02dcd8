-- The limits of what is accepted: spans, cells and promises.
use Rattle.std.specs.Prelude.{◌≡◌, ℕ, ◌≤◌, List, [], ◌∷◌, pos, neg_ℤ, ◌≤ℤ◌, Some, None, Ok, Option}
use Rattle.coverage.specs.declared.range.Range.{Range}
use Rattle.coverage.specs.declared.kind.Kind.{Kind}
use Rattle.coverage.specs.declared.kind.Kind.TheVariants.{Number}
use Rattle.coverage.specs.Axes.{cells}
use Rattle.coverage.specs.Kinds.{low, high}
use Rattle.syntax.specs.Tree.{Word, Iterator, Expr, at, numeral, truth, name, iterator, unary, binary, reduce, trim, slice, condense, condense_where, form, Query}
use Rattle.language.specs.Iterators.{Ranges}
use Rattle.language.specs.Typing.{About, Described, domain_of, kind_of, promise_of}
use Rattle.language.specs.Faults.{most_reads, fault_of}
use Rattle.language.specs.Queries.{Announced, checked}
use Rattle.language.specs.Laws.{OrderedDomains}

-- no span reaches beyond this number, nor below its opposite
abbrev pub widest : ℕ
widest = 2147483647

-- no domain has more cells, no iteration more points
abbrev pub most_cells : ℕ
most_cells = 65536

-- numerals, and the ends of iterators, are within the widest span: the text answers for that
abbrev pub SmallIterators : List Iterator → Type 0
SmallIterators [] = Unit {0}
SmallIterators (i ∷ rest) = (neg_ℤ (pos widest) ≤ℤ i.range.lo) × (i.range.hi ≤ℤ pos widest) × SmallIterators rest

-- the same of every numeral and iterator in an expression
abbrev pub Small : Expr → Type 0
Small (at place e) = Small e
Small (numeral n) = n ≤ widest
Small (truth b) = Unit {0}
Small (name w) = Unit {0}
Small (iterator w) = Unit {0}
Small (unary o e) = Small e
Small (binary o d e) = Small d × Small e
Small (reduce r e) = Small e
Small (trim twice a r e) = Small e
Small (slice twice a e q) = Small e × Small q
Small (condense o is e) = SmallIterators is × Small e
Small (condense_where o is w e) = SmallIterators is × Small w × Small e
Small (form is e) = SmallIterators is × Small e

-- a kind's span is within the widest, its ends in order
pub record InBounds (k : Kind) : Type 0 where
  pub least : neg_ℤ (pos widest) ≤ℤ low k
  pub most : high k ≤ℤ pos widest
  pub ordered : low k ≤ℤ high k

-- the same of the range of an iterator, where there is one
abbrev pub RangeInBounds : Option Range → Type 0
RangeInBounds None = Unit {0}
RangeInBounds (Some r) = InBounds (Number r)

-- what is found on a shelf keeps the limits itself
pub record BoundedShelf (about : Described) : Type 0 where
  pub ordered : OrderedDomains about
  pub kinds : (w : Word) (a : About) → about w ≡ Some a → InBounds a.kind
  pub cells : (w : Word) (a : About) → about w ≡ Some a → cells a.extents ≤ most_cells

-- every accepted part has its span in bounds, at most so many cells, and a promise no higher than allowed; so has a query
pub record AcceptedKeepsTheLimits : Type 0 where
  pub span_of_a_part : (about : Described) → BoundedShelf about → (g : Ranges) → ((w : Word) → RangeInBounds (g w)) → (place : ℕ) (e : Expr) → Small e →
      fault_of about g place e ≡ None → InBounds (kind_of about g e)
  pub cells_of_a_part : (about : Described) → BoundedShelf about → (g : Ranges) (place : ℕ) (e : Expr) → fault_of about g place e ≡ None → cells (domain_of about e) ≤ most_cells
  pub promise_of_a_part : (about : Described) (g : Ranges) (place : ℕ) (e : Expr) → fault_of about g place e ≡ None → promise_of about e ≤ most_reads
  pub span_of_a_query : (find : Described) → BoundedShelf find → (q : Query) → Small q.body → (t : Announced) → checked find q ≡ Ok t → InBounds t.kind
  pub cells_of_a_query : (find : Described) → BoundedShelf find → (q : Query) (t : Announced) → checked find q ≡ Ok t → cells t.extents ≤ most_cells
  pub promise_of_a_query : (find : Described) (q : Query) (t : Announced) → checked find q ≡ Ok t → t.promise ≤ most_reads
