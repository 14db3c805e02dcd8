-- Spans and kinds: from those of the operands to that of the result.
use Rattle.std.specs.Prelude.{ℕ, Bool, ◌&&◌, ℤ, pos, ◌*ℤ◌, neg_ℤ, int_le}
use Rattle.std.specs.Int.{int_min, int_max}
use Rattle.coverage.specs.declared.range.Range.{Range}
use Rattle.coverage.specs.declared.kind.Kind.{Kind}
use Rattle.coverage.specs.declared.kind.Kind.TheVariants.{Truth, Number}
use Rattle.coverage.specs.Kinds.{low, high}
use Rattle.syntax.specs.declared.Unary.{Unary}
use Rattle.syntax.specs.declared.Unary.TheVariants.{Minus, Not, Abs}
use Rattle.syntax.specs.declared.Binary.{Binary}
use Rattle.syntax.specs.declared.Binary.TheVariants.{Numbers, Overlay, Compares, Truths}
use Rattle.syntax.specs.declared.Fold.{Fold}
use Rattle.syntax.specs.declared.Fold.TheVariants.{Sum, Least, Greatest, Every, Any}
use Rattle.syntax.specs.declared.Reduce.{Reduce}
use Rattle.syntax.specs.declared.Reduce.TheVariants.{Whole, Count}
use Rattle.language.specs.Operators.{arithmetic}

-- ---- spans

-- a span by its lowest and highest value
abbrev pub span : ℤ → ℤ → Range
span l h = record { lo = l; hi = h }

-- the lowest and highest value of a kind
abbrev pub span_of : Kind → Range
span_of k = span (low k) (high k)

-- a number by its span
abbrev pub number : ℤ → ℤ → Kind
number l h = Number (span l h)

-- the lowest of four
abbrev pub lowest : ℤ → ℤ → ℤ → ℤ → ℤ
lowest a b c d = int_min (int_min a b) (int_min c d)

-- the highest of four
abbrev pub highest : ℤ → ℤ → ℤ → ℤ → ℤ
highest a b c d = int_max (int_max a b) (int_max c d)

-- the lowest and highest result over the four pairs of span ends
unfoldable pub corners : (ℤ → ℤ → ℤ) → Range → Range → Range
corners f a b = span (lowest (f a.lo b.lo) (f a.lo b.hi) (f a.hi b.lo) (f a.hi b.hi))
    (highest (f a.lo b.lo) (f a.lo b.hi) (f a.hi b.lo) (f a.hi b.hi))

-- l to h turns into -h to -l
abbrev pub negated : Range → Range
negated r = span (neg_ℤ r.hi) (neg_ℤ r.lo)

-- the least to the greatest magnitude in a span; the least is 0 where the span holds it, else that of the nearer end
abbrev pub magnitudes : Range → Range
magnitudes r = span (int_max (pos 0) (int_max r.lo (neg_ℤ r.hi))) (int_max r.hi (neg_ℤ r.lo))

-- the narrowest span that holds two others
abbrev pub hull : Range → Range → Range
hull a b = span (int_min a.lo b.lo) (int_max a.hi b.hi)

-- the span of a sum of n values
abbrev pub times : ℕ → Range → Range
times n r = span (pos n *ℤ r.lo) (pos n *ℤ r.hi)

-- a span widened to hold 0
abbrev pub with_zero : Range → Range
with_zero r = span (int_min (pos 0) r.lo) (int_max (pos 0) r.hi)

-- whether 0 lies in a span
abbrev pub holds_zero : Range → Bool
holds_zero r = int_le r.lo (pos 0) && int_le (pos 0) r.hi

-- ---- kinds

-- a prefix, or `abs`
abbrev pub unary_kind : Unary → Kind → Kind
unary_kind Minus k = Number (negated (span_of k))
unary_kind Not k = Truth
unary_kind Abs k = Number (magnitudes (span_of k))

-- two operands
abbrev pub binary_kind : Binary → Kind → Kind → Kind
binary_kind (Numbers o) j k = Number (corners (arithmetic o) (span_of j) (span_of k))
binary_kind Overlay j k = Number (hull (span_of j) (span_of k))
binary_kind (Compares c) j k = Truth
binary_kind (Truths l) j k = Truth

-- n cells or points of one kind made one: a sum gives n times the span, least and greatest the span
abbrev pub fold_kind : Fold → ℕ → Kind → Kind
fold_kind Sum n k = Number (times n (span_of k))
fold_kind Least n k = Number (span_of k)
fold_kind Greatest n k = Number (span_of k)
fold_kind Every n k = Truth
fold_kind Any n k = Truth

-- where some points may be left out, a sum's span is widened to hold 0
abbrev pub widened : Fold → Kind → Kind
widened Sum k = Number (with_zero (span_of k))
widened Least k = k
widened Greatest k = k
widened Every k = k
widened Any k = k

-- a function over n cells; `count` gives 0 to n
abbrev pub reduce_kind : Reduce → ℕ → Kind → Kind
reduce_kind (Whole o) n k = fold_kind o n k
reduce_kind Count n k = number (pos 0) (pos n)
