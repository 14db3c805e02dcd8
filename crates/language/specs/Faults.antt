-- The first refusal of a query's parts: 5 to 11, each at the byte where its construct begins.
-- Operands are tested left to right before their construct, iterators before bodies, and a
-- construct's own tests in rising order.
use Rattle.std.specs.Prelude.{ℕ, ◌+◌, ◌*◌, Bool, true, false, cond, not, ◌&&◌, ◌||◌, List, Some, None, Option, int_le, nat_le}
use Rattle.coverage.specs.declared.range.Range.{Range}
use Rattle.coverage.specs.declared.kind.Kind.{Kind}
use Rattle.coverage.specs.declared.refusal.Refusal.{Refusal}
use Rattle.coverage.specs.declared.refusal.Layer.TheVariants.{Check}
use Rattle.coverage.specs.declared.refusal.Returned.TheVariants.{One}
use Rattle.coverage.specs.Axes.{Extents, no_axes, same_domain, is_none, cells}
use Rattle.coverage.specs.Kinds.{low, high}
use Rattle.coverage.specs.Limits.{kind_narrow, few}
use Rattle.syntax.specs.declared.Unary.{Unary}
use Rattle.syntax.specs.declared.Arithmetic.TheVariants.{Plus, Subtract, Multiply, Divide}
use Rattle.syntax.specs.declared.Binary.{Binary}
use Rattle.syntax.specs.declared.Binary.TheVariants.{Numbers, Overlay, Compares, Truths}
use Rattle.syntax.specs.declared.Fold.{Fold}
use Rattle.syntax.specs.declared.Reduce.{Reduce}
use Rattle.syntax.specs.Tree.{Iterator, Expr, at, numeral, truth, name, iterator, unary, binary, reduce, trim, slice, condense, condense_where, form}
use Rattle.language.specs.Spans.{span_of, holds_zero, unary_kind, binary_kind, fold_kind, widened, reduce_kind}
use Rattle.language.specs.Fits.{a_number, a_truth, fits_as, unary_expects, operands_fit, fold_expects, reduce_expects}
use Rattle.language.specs.Iterators.{Ranges, iterator_extents, bind_ranges, new_words, own_axes}
use Rattle.language.specs.Typing.{About, Described, domain_of, kind_of, promise_of}

-- ---- the limit of promises: those of spans and cells hold of shelves too

-- no promise, for a cell or of a query, is higher
abbrev pub most_reads : ℕ
most_reads = 16000000

-- ---- how refusals are told, and which comes first

-- a refusal as the check tells it: its number and its place
abbrev pub refuse : ℕ → ℕ → Refusal
refuse number place = record { layer = Check; number = number; returned = One place }

-- refused by this number unless the test holds
abbrev pub unless : Bool → ℕ → ℕ → Option Refusal
unless holds number place = cond holds None (Some (refuse number place))

-- of two tests in turn, the refusal of the first that fails
abbrev pub first : Option Refusal → Option Refusal → Option Refusal
first None y = y
first (Some r) y = Some r

-- ---- tests that several rules have

-- 9: the span beyond the bounds; 11: the promise for a cell too high
unfoldable pub limits_fault : Kind → ℕ → ℕ → Option Refusal
limits_fault k promise place = first (unless (kind_narrow k) 9 place) (unless (nat_le promise most_reads) 11 place)

-- equal domains, or one without axes
abbrev pub domains_fit : Extents → Extents → Bool
domains_fit d e = no_axes d || (no_axes e || same_domain d e)

-- a word that stands for something
abbrev pub is_bound : Option About → Bool
is_bound None = false
is_bound (Some a) = true

-- ---- the tests of each construct

-- 5: the word is unbound
unfoldable pub name_fault : Option About → ℕ → Option Refusal
name_fault a place = unless (is_bound a) 5 place

-- the same of a word without `$`: it is no iterator of a form around
unfoldable pub iterator_fault : Option Range → ℕ → Option Refusal
iterator_fault r place = unless (not (is_none r)) 5 place

-- 7: another kind than expected
unfoldable pub unary_fault : Unary → Kind → ℕ → ℕ → Option Refusal
unary_fault o k promise place = first (unless (fits_as (unary_expects o) k) 7 place) (limits_fault (unary_kind o k) promise place)

-- only division has a divisor
abbrev pub is_division : Binary → Bool
is_division (Numbers Plus) = false
is_division (Numbers Subtract) = false
is_division (Numbers Multiply) = false
is_division (Numbers Divide) = true
is_division Overlay = false
is_division (Compares c) = false
is_division (Truths l) = false

-- 8: the divisor's span holds 0
abbrev pub divisor_fault : Binary → Kind → ℕ → Option Refusal
divisor_fault o k place = unless (not (is_division o && holds_zero (span_of k))) 8 place

-- 7: kinds or domains that do not fit
unfoldable pub binary_fault : Binary → Extents → Kind → Extents → Kind → ℕ → ℕ → Option Refusal
binary_fault o d j e k promise place =
    first (unless (operands_fit o j k && domains_fit d e) 7 place) (
    first (divisor_fault o k place) (limits_fault (binary_kind o j k) promise place))

-- a function over n cells
unfoldable pub reduce_fault : Reduce → ℕ → Kind → ℕ → ℕ → Option Refusal
reduce_fault r n k promise place = first (unless (fits_as (reduce_expects r) k) 7 place) (limits_fault (reduce_kind r n k) promise place)

-- a trim lies inside its axis
abbrev pub trim_inside : Option Range → Range → Bool
trim_inside None r = false
trim_inside (Some q) r = int_le r.lo r.hi && (int_le q.lo r.lo && int_le r.hi q.hi)

-- 6: the axis missing or twice in one bracket, or the trim outside
unfoldable pub trim_fault : Bool → Option Range → Range → ℕ → Option Refusal
trim_fault twice axis r place = unless (not twice && trim_inside axis r) 6 place

-- the whole span of a position lies inside the axis; what is no number has no span to lie outside
abbrev pub position_inside : Option Range → Kind → Bool
position_inside None k = false
position_inside (Some q) k = not (fits_as a_number k) || (int_le q.lo (low k) && int_le (high k) q.hi)

-- 6: the axis missing or twice in one bracket, or the position outside; 7: the position is no number without axes
unfoldable pub slice_fault : Bool → Option Range → Extents → Kind → ℕ → ℕ → Option Refusal
slice_fault twice axis d k promise place =
    first (unless (not twice && position_inside axis k) 6 place) (
    first (unless (fits_as a_number k && no_axes d) 7 place) (unless (nat_le promise most_reads) 11 place))

-- 5: a word in use around or twice here; 6: an axis twice, or a lowest above its highest; 10: too many points
unfoldable pub iterators_fault : Ranges → List Iterator → ℕ → Option Refusal
iterators_fault g is place =
    first (unless (new_words is g) 5 place) (
    first (unless (own_axes is) 6 place) (unless (few (iterator_extents is)) 10 place))

-- the body of a condense form: of the kind that the operator takes, without axes
abbrev pub body_fits : Fold → Extents → Kind → Bool
body_fits o d k = fits_as (fold_expects o) k && no_axes d

-- its `where`: a truth without axes
abbrev pub where_fits : Extents → Kind → Bool
where_fits d k = fits_as a_truth k && no_axes d

-- condense over n points
unfoldable pub condense_fault : Fold → ℕ → Extents → Kind → ℕ → ℕ → Option Refusal
condense_fault o n d k promise place = first (unless (body_fits o d k) 7 place) (limits_fault (fold_kind o n k) promise place)

-- condense over those of n points where the `where` holds
unfoldable pub condense_where_fault : Fold → ℕ → Extents → Kind → Extents → Kind → ℕ → ℕ → Option Refusal
condense_where_fault o n c j d k promise place =
    first (unless (where_fits c j && body_fits o d k) 7 place) (limits_fault (widened o (fold_kind o n k)) promise place)

-- 7: a body with axes
unfoldable pub form_fault : Extents → ℕ → Option Refusal
form_fault d place = unless (no_axes d) 7 place

-- ---- the first refusal of an expression, with the iterators in use around and the place of its construct

module _ (about : Described) where
  -- each construct after its operands; the place is that of the construct around, until a tree says where its own begins
  abbrev pub fault_of : Ranges → ℕ → Expr → Option Refusal
  fault_of g place (at here e) = fault_of g here e
  fault_of g place (numeral n) = None
  fault_of g place (truth b) = None
  fault_of g place (name w) = name_fault (about w) place
  fault_of g place (iterator w) = iterator_fault (g w) place
  fault_of g place (unary o e) = first (fault_of g place e) (unary_fault o (kind_of about g e) (promise_of about e) place)
  fault_of g place (binary o d e) =
      first (fault_of g place d) (
      first (fault_of g place e) (
      binary_fault o (domain_of about d) (kind_of about g d) (domain_of about e) (kind_of about g e) (promise_of about d + promise_of about e) place))
  fault_of g place (reduce r e) =
      first (fault_of g place e) (
      reduce_fault r (cells (domain_of about e)) (kind_of about g e) (cells (domain_of about e) * promise_of about e) place)
  fault_of g place (trim twice a r e) = first (fault_of g place e) (trim_fault twice (domain_of about e a) r place)
  fault_of g place (slice twice a e q) =
      first (fault_of g place e) (
      first (fault_of g place q) (
      slice_fault twice (domain_of about e a) (domain_of about q) (kind_of about g q) (promise_of about e + promise_of about q) place))
  fault_of g place (condense o is e) =
      first (iterators_fault g is place) (
      first (fault_of (bind_ranges is g) place e) (
      condense_fault o (cells (iterator_extents is)) (domain_of about e) (kind_of about (bind_ranges is g) e) (cells (iterator_extents is) * promise_of about e) place))
  fault_of g place (condense_where o is w e) =
      first (iterators_fault g is place) (
      first (fault_of (bind_ranges is g) place w) (
      first (fault_of (bind_ranges is g) place e) (
      condense_where_fault o (cells (iterator_extents is)) (domain_of about w) (kind_of about (bind_ranges is g) w) (domain_of about e) (kind_of about (bind_ranges is g) e)
      (cells (iterator_extents is) * (promise_of about w + promise_of about e)) place)))
  fault_of g place (form is e) =
      first (iterators_fault g is place) (
      first (fault_of (bind_ranges is g) place e) (
      form_fault (domain_of about e) place))
