-- Every accepted part has its span in bounds with the ends in order, and a promise no higher than allowed.
use Rattle.std.proofs.Common.{◌≡◌, ℕ, ◌≤◌, Bool, true, false, cond, List, [], ◌∷◌, ℤ, pos, ◌*ℤ◌, neg_ℤ, ◌≤ℤ◌, Some, None, Option, refl, arith as linear}
use lib.IntN.{*ℤ_comm}
use lib.Signed.{le_z}
use borrow.Author.Tests.{clash}
use Rattle.std.specs.Str.{bytes_eq}
use Rattle.std.proofs.lemmas.Int.{ints, clamps}
use Rattle.coverage.specs.declared.range.Range.{Range}
use Rattle.coverage.specs.declared.kind.Kind.{Kind}
use Rattle.coverage.specs.declared.kind.Kind.TheVariants.{Truth}
use Rattle.coverage.specs.Axes.{cells}
use Rattle.coverage.specs.Limits.{kind_narrow}
use Rattle.coverage.specs.Kinds.{low, high}
use Rattle.coverage.proofs.Bools.{and_left, and_right}
use Rattle.syntax.specs.declared.Unary.{Unary}
use Rattle.syntax.specs.declared.Unary.TheVariants.{Minus, Not, Abs}
use Rattle.syntax.specs.declared.Binary.{Binary}
use Rattle.syntax.specs.declared.Binary.TheVariants.{Numbers, Overlay, Compares, Truths}
use Rattle.syntax.specs.declared.Fold.{Fold}
use Rattle.syntax.specs.declared.Fold.TheVariants.{Sum, Least, Greatest, Every, Any}
use Rattle.syntax.specs.declared.Reduce.{Reduce}
use Rattle.syntax.specs.declared.Reduce.TheVariants.{Whole, Count}
use Rattle.syntax.specs.Tree.{Word, Iterator, Expr, at, numeral, truth, name, iterator, unary, binary, reduce, trim, slice, condense, condense_where, form}
use Rattle.language.specs.Operators.{arithmetic}
use Rattle.language.specs.Spans.{lowest, highest, corners, unary_kind, binary_kind, fold_kind, widened, reduce_kind}
use Rattle.language.specs.Iterators.{Ranges, iterator_extents, bind_ranges, own_axes}
use Rattle.language.specs.Typing.{About, Described, named_kind, iterator_kind, domain_of, kind_of, promise_of}
use Rattle.language.specs.Faults.{most_reads, is_bound, fault_of}
use Rattle.language.specs.Limits.{widest, SmallIterators, Small, InBounds, RangeInBounds, BoundedShelf}
use Rattle.coverage.proofs.Products.{mul_up}
use Rattle.language.proofs.Domains.{own_ordered}
use Rattle.language.proofs.Rules.{name_accepted, unary_accepted, binary_accepted, reduce_accepted, trim_accepted, slice_accepted, condense_accepted, where_accepted, form_accepted}

-- ---- promises

pub few_reads : (about : Described) (g : Ranges) (place : ℕ) (e : Expr) → fault_of about g place e ≡ None → promise_of about e ≤ most_reads
few_reads about g place (at here e) f = few_reads about g here e f
few_reads about g place (numeral n) f = omega linear
few_reads about g place (truth b) f = omega linear
few_reads about g place (name w) f = omega linear
few_reads about g place (iterator w) f = omega linear
few_reads about g place (unary o e) f = (unary_accepted about g place o e f).limits.few
few_reads about g place (binary o d e) f = (binary_accepted about g place o d e f).limits.few
few_reads about g place (reduce r e) f = (reduce_accepted about g place r e f).limits.few
few_reads about g place (trim t a r e) f = few_reads about g place e (trim_accepted about g place t a r e f).part
few_reads about g place (slice t a e q) f = (slice_accepted about g place t a e q f).few
few_reads about g place (condense o is e) f = (condense_accepted about g place is o e f).limits.few
few_reads about g place (condense_where o is w e) f = (where_accepted about g place is o w e f).limits.few
few_reads about g place (form is e) f = few_reads about (bind_ranges is g) place e (form_accepted about g place is e f).body

-- ---- each rule keeps the ends of spans in order

pub unary_ordered : (o : Unary) (k : Kind) → low k ≤ℤ high k → low (unary_kind o k) ≤ℤ high (unary_kind o k)
unary_ordered Minus k h = omega (linear, ints)
unary_ordered Not k h = omega (linear, ints)
unary_ordered Abs k h = omega (linear, ints, clamps)

low_high : (a b c d : ℤ) → lowest a b c d ≤ℤ highest a b c d
low_high a b c d = omega (linear, ints, clamps)

pub binary_ordered : (o : Binary) (j k : Kind) → low j ≤ℤ high j → low k ≤ℤ high k → low (binary_kind o j k) ≤ℤ high (binary_kind o j k)
unfolding corners
binary_ordered (Numbers o) j k h l = low_high (arithmetic o (low j) (low k)) (arithmetic o (low j) (high k)) (arithmetic o (high j) (low k)) (arithmetic o (high j) (high k))
binary_ordered Overlay j k h l = omega (linear, ints, clamps)
binary_ordered (Compares c) j k h l = omega (linear, ints)
binary_ordered (Truths c) j k h l = omega (linear, ints)

times_up : (n : ℕ) (a b : ℤ) → a ≤ℤ b → (pos n *ℤ a) ≤ℤ (pos n *ℤ b)
times_up n a b h = rw (*ℤ_comm (pos n) a, *ℤ_comm (pos n) b) (mul_up a b n h)

pub fold_ordered : (o : Fold) (n : ℕ) (k : Kind) → low k ≤ℤ high k → low (fold_kind o n k) ≤ℤ high (fold_kind o n k)
fold_ordered Sum n k h = times_up n (low k) (high k) h
fold_ordered Least n k h = h
fold_ordered Greatest n k h = h
fold_ordered Every n k h = omega (linear, ints)
fold_ordered Any n k h = omega (linear, ints)

pub widened_ordered : (o : Fold) (k : Kind) → low k ≤ℤ high k → low (widened o k) ≤ℤ high (widened o k)
widened_ordered Sum k h = omega (linear, ints, clamps)
widened_ordered Least k h = h
widened_ordered Greatest k h = h
widened_ordered Every k h = h
widened_ordered Any k h = h

pub reduce_ordered : (r : Reduce) (n : ℕ) (k : Kind) → low k ≤ℤ high k → low (reduce_kind r n k) ≤ℤ high (reduce_kind r n k)
reduce_ordered (Whole o) n k h = fold_ordered o n k h
reduce_ordered Count n k h = omega (linear, ints)

-- ---- spans

pub tested : (k : Kind) → kind_narrow k ≡ true → low k ≤ℤ high k → InBounds k
tested k t o =
    let a = and_left (le_z (neg_ℤ (pos widest)) (low k)) _ t in
    let b = and_right (le_z (neg_ℤ (pos widest)) (low k)) _ t in
    record { least = omega (linear, ints); most = omega (linear, ints); ordered = o }

pub truth_bounds : InBounds Truth
truth_bounds = record { least = omega (linear, ints); most = omega (linear, ints); ordered = omega (linear, ints) }

iterator_bounds : (r : Option Range) → RangeInBounds r → InBounds (iterator_kind r)
iterator_bounds None h = truth_bounds
iterator_bounds (Some r) h = h

bound_ranges : (is : List Iterator) (g : Ranges) → SmallIterators is → own_axes is ≡ true → ((w : Word) → RangeInBounds (g w)) → (w : Word) → RangeInBounds (bind_ranges is g w)
bound_ranges [] g s t h w = h w
bound_ranges (i ∷ rest) g s t h w = go (bytes_eq i.word w) (bound_ranges rest g s.2 (and_right _ (own_axes rest) t) h w)
  where
    go : (b : Bool) → RangeInBounds (bind_ranges rest g w) → RangeInBounds (cond b (Some i.range) (bind_ranges rest g w))
    go true l = record { least = s.0; most = s.1; ordered = own_ordered i rest t }
    go false l = l

module _ (about : Described) (shelf : BoundedShelf about) where
  name_bounds : (w : Word) → is_bound (about w) ≡ true → InBounds (named_kind (about w))
  name_bounds w t = go (about w) refl t
    where
      go : (o : Option About) → about w ≡ o → is_bound o ≡ true → InBounds (named_kind o)
      go None e t = absurd (clash t)
      go (Some a) e t = shelf.kinds w a e

  pub in_bounds : (g : Ranges) → ((w : Word) → RangeInBounds (g w)) → (place : ℕ) (e : Expr) → Small e → fault_of about g place e ≡ None → InBounds (kind_of about g e)
  in_bounds g t place (at here e) s f = in_bounds g t here e s f
  in_bounds g t place (numeral n) s f = record { least = omega (linear, ints); most = omega (linear, ints); ordered = omega (linear, ints) }
  in_bounds g t place (truth b) s f = truth_bounds
  in_bounds g t place (name w) s f = name_bounds w (name_accepted about g place w f)
  in_bounds g t place (iterator w) s f = iterator_bounds (g w) (t w)
  in_bounds g t place (unary o e) s f =
      let b = unary_accepted about g place o e f in
      tested (unary_kind o (kind_of about g e)) b.limits.span (unary_ordered o (kind_of about g e) (in_bounds g t place e s b.part).ordered)
  in_bounds g t place (binary o d e) s f =
      let b = binary_accepted about g place o d e f in
      tested (binary_kind o (kind_of about g d) (kind_of about g e)) b.limits.span
      (binary_ordered o (kind_of about g d) (kind_of about g e) (in_bounds g t place d s.0 b.left).ordered (in_bounds g t place e s.1 b.right).ordered)
  in_bounds g t place (reduce r e) s f =
      let b = reduce_accepted about g place r e f in
      tested (reduce_kind r (cells (domain_of about e)) (kind_of about g e)) b.limits.span (reduce_ordered r (cells (domain_of about e)) (kind_of about g e) (in_bounds g t place e s b.part).ordered)
  in_bounds g t place (trim z a r e) s f = in_bounds g t place e s (trim_accepted about g place z a r e f).part
  in_bounds g t place (slice z a e q) s f = in_bounds g t place e s.0 (slice_accepted about g place z a e q f).part
  in_bounds g t place (condense o is e) s f =
      let b = condense_accepted about g place is o e f in
      let k = kind_of about (bind_ranges is g) e in
      tested (fold_kind o (cells (iterator_extents is)) k) b.limits.span
      (fold_ordered o (cells (iterator_extents is)) k (in_bounds (bind_ranges is g) (bound_ranges is g s.0 b.iterators.own t) place e s.1 b.body).ordered)
  in_bounds g t place (condense_where o is w e) s f =
      let b = where_accepted about g place is o w e f in
      let k = kind_of about (bind_ranges is g) e in
      tested (widened o (fold_kind o (cells (iterator_extents is)) k)) b.limits.span
      (widened_ordered o (fold_kind o (cells (iterator_extents is)) k)
      (fold_ordered o (cells (iterator_extents is)) k (in_bounds (bind_ranges is g) (bound_ranges is g s.0 b.iterators.own t) place e s.2 b.body).ordered))
  in_bounds g t place (form is e) s f =
      let b = form_accepted about g place is e f in
      in_bounds (bind_ranges is g) (bound_ranges is g s.0 b.iterators.own t) place e s.1 b.body
