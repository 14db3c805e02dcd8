-- What a rule accepts of operands within the limits is itself within them.
use Rattle.std.proofs.Common.{◌≡◌, ℕ, ◌+◌, ◌*◌, ◌≤◌, Bool, true, not, ◌&&◌, leb, List, ◌≤ℤ◌, Some, None, Option, refl, arith as linear}
use Rattle.std.proofs.lemmas.Int.{ints}
use Rattle.coverage.specs.declared.axis.Axis.{Axis}
use Rattle.coverage.specs.declared.range.Range.{Range}
use Rattle.coverage.specs.declared.kind.Kind.{Kind}
use Rattle.coverage.specs.declared.refusal.Refusal.{Refusal}
use Rattle.coverage.specs.declared.description.Description.{Description}
use Rattle.coverage.specs.Axes.{Extents, Ordered, cells, extents, no_axes, no_extents, same_axis, set_axis}
use Rattle.coverage.specs.Kinds.{low, high}
use Rattle.coverage.specs.Limits.{describable}
use Rattle.coverage.proofs.Bools.{and_right}
use Rattle.coverage.proofs.Bounds.{bounded_ordered, describable_by, few_cells}
use Rattle.syntax.specs.declared.Unary.{Unary}
use Rattle.syntax.specs.declared.Binary.{Binary}
use Rattle.syntax.specs.declared.Fold.{Fold}
use Rattle.syntax.specs.declared.Reduce.{Reduce}
use Rattle.syntax.specs.Tree.{Iterator}
use Rattle.language.specs.Spans.{unary_kind, binary_kind, fold_kind, widened, reduce_kind}
use Rattle.language.specs.Fits.{a_number, fits_as, operands_fit}
use Rattle.language.specs.Iterators.{Ranges, iterator_extents}
use Rattle.language.specs.Typing.{joint_extents}
use Rattle.language.specs.Limits.{InBounds, RangeInBounds, most_cells}
use Rattle.language.specs.Faults.{most_reads, unless, first, limits_fault, domains_fit, divisor_fault, position_inside, name_fault, iterator_fault, unary_fault, binary_fault, reduce_fault, trim_inside, trim_fault, slice_fault, iterators_fault, condense_fault, condense_where_fault, form_fault}
use Rattle.language.specs.Queries.{Announced}
use Rattle.language.proofs.Domains.{iterators_ordered, trim_ordered}
use Rattle.language.proofs.Limits.{tested, truth_bounds, unary_ordered, binary_ordered, fold_ordered, widened_ordered, reduce_ordered}
use Rattle.language.proofs.Rules.{in_limits, low_promise, own_iterators, passes}
use Rattle.language.proofs.Sizes.{joint_le, one_le, set_le, trim_le}
use Rattle.language.proofs.Within.{cond_ordered}
use Rattle.checking.specs.Keeps.{Kept, Passable, RulesKeepTheLimits, Through}
use Rattle.checking.specs.Rules.{accepts, announce, name_rule, iterator_rule, unary_rule, binary_rule, reduce_rule, trim_rule, slice_rule, condense_rule, condense_where_rule, form_rule}
use Rattle.checking.specs.Told.{Limited, about_of}
use Rattle.checking.specs.Trees.{iterators_rule}

-- it is enough to look where there is no refusal
kept_if : (f : Option Refusal) (p : Announced) → (f ≡ None → Limited p) → Kept (accepts f p)
kept_if None p h = h refl
kept_if (Some r) p h = tt

through_if : (f : Option Refusal) (d : Extents) → (f ≡ None → Passable d) → Through (accepts f d)
through_if None d h = h refl
through_if (Some r) d h = tt

-- a test before the others refuses, or leaves it to them
after : (t s : Option Refusal) (p : Announced) → Kept (accepts s p) → Kept (accepts (first t s) p)
after None s p h = h
after (Some r) s p h = tt

-- what is tested last: its promise, or its span and its promise
read : (p : Announced) (place : ℕ) → InBounds p.kind → ((a : Axis) → Ordered (p.extents a)) → cells p.extents ≤ most_cells → Kept (accepts (unless (leb p.promise most_reads) 11 place) p)
read p place k o c = kept_if (unless (leb p.promise most_reads) 11 place) p (λ f. record { span = k; ordered = o; few = c; reads = low_promise p.promise place f })

within : (p : Announced) (place : ℕ) → low p.kind ≤ℤ high p.kind → ((a : Axis) → Ordered (p.extents a)) → cells p.extents ≤ most_cells → Kept (accepts (limits_fault p.kind p.promise place) p)
within p place k o c =
    kept_if (limits_fault p.kind p.promise place) p (λ f. let l = in_limits p.kind p.promise place f in record { span = tested p.kind l.span k; ordered = o; few = c; reads = l.few })

-- a single value
single : (k : Kind) (n place : ℕ) → low k ≤ℤ high k → Kept (accepts (limits_fault k n place) (announce no_extents k n))
single k n place o = within (announce no_extents k n) place o (λ a. tt) (omega linear)

-- one axis set to a range in order
set_ordered : (d : Extents) (a : Axis) (r : Option Range) → ((b : Axis) → Ordered (d b)) → Ordered r → (b : Axis) → Ordered (set_axis d a r b)
set_ordered d a r h o b = cond_ordered (same_axis a b) r (d b) o (h b)

word_kept : (r : Option Range) (place : ℕ) → RangeInBounds r → Kept (iterator_rule r place)
unfolding iterator_fault
word_kept None place h = tt
word_kept (Some r) place h = record { span = h; ordered = λ a. tt; few = omega linear; reads = omega linear }

name_kept : (a : Description) (place : ℕ) → describable a ≡ true → Kept (name_rule (Some (about_of a)) place)
unfolding name_fault
name_kept a place h =
    let b = describable_by a h in
    record {
      span = tested a.kind b.kind_narrow_holds (omega (linear, ints, b.kind_ordered_holds));
      ordered = bounded_ordered (extents a.domain) b.axes_bounded;
      few = few_cells (extents a.domain) b.cells_few;
      reads = omega linear;
    }

unary_kept : (o : Unary) (p : Announced) (place : ℕ) → Limited p → Kept (unary_rule o p place)
unfolding unary_fault
unary_kept o p place h = grind (linear, within (announce p.extents (unary_kind o p.kind) p.promise) place (unary_ordered o p.kind h.span.ordered) h.ordered h.few)

binary_kept : (o : Binary) (p q : Announced) (place : ℕ) → Limited p → Limited q → Kept (binary_rule o p q place)
unfolding binary_fault
binary_kept o p q place h g =
    let whole = announce (joint_extents p.extents q.extents) (binary_kind o p.kind q.kind) (p.promise + q.promise) in
    let fit = unless (operands_fit o p.kind q.kind && domains_fit p.extents q.extents) 7 place in
    let last = limits_fault whole.kind whole.promise place in
    after fit (first (divisor_fault o q.kind place) last) whole (after (divisor_fault o q.kind place) last whole (
    within whole place (binary_ordered o p.kind q.kind h.span.ordered g.span.ordered)
    (λ a. cond_ordered (no_axes p.extents) (q.extents a) (p.extents a) (g.ordered a) (h.ordered a))
    (joint_le (no_axes p.extents) p.extents q.extents most_cells h.few g.few)))

reduce_kept : (r : Reduce) (p : Announced) (place : ℕ) → Limited p → Kept (reduce_rule r p place)
unfolding reduce_fault
reduce_kept r p place h =
    let n = cells p.extents in
    grind (linear, single (reduce_kind r n p.kind) (n * p.promise) place (reduce_ordered r n p.kind h.span.ordered))

trim_kept : (twice : Bool) (a : Axis) (r : Range) (p : Announced) (place : ℕ) → Limited p → Kept (trim_rule twice a r p place)
unfolding trim_fault
trim_kept twice a r p place h =
    let b = not twice && trim_inside (p.extents a) r in
    kept_if (unless b 6 place) (announce (set_axis p.extents a (Some r)) p.kind p.promise) (λ f.
    let i : trim_inside (p.extents a) r ≡ true = and_right (not twice) _ (passes b 6 place f) in
    let l : cells (set_axis p.extents a (Some r)) ≤ cells p.extents = set_le p.extents a (Some r) (trim_le (p.extents a) r i) in
    record { span = h.span; ordered = set_ordered p.extents a (Some r) h.ordered (trim_ordered (p.extents a) r i); few = omega (linear, l, h.few); reads = h.reads })

slice_kept : (twice : Bool) (a : Axis) (p q : Announced) (place : ℕ) → Limited p → Kept (slice_rule twice a p q place)
unfolding slice_fault
slice_kept twice a p q place h =
    let whole = announce (set_axis p.extents a None) p.kind (p.promise + q.promise) in
    let inside = unless (not twice && position_inside (p.extents a) q.kind) 6 place in
    let fit = unless (fits_as a_number q.kind && no_axes q.extents) 7 place in
    let last = unless (leb whole.promise most_reads) 11 place in
    let c : cells whole.extents ≤ cells p.extents = set_le p.extents a None (one_le (p.extents a) (h.ordered a)) in
    after inside (first fit last) whole (after fit last whole (
    read whole place h.span (set_ordered p.extents a None h.ordered tt) (omega (linear, c, h.few))))

iterators_kept : (g : Ranges) (is : List Iterator) (place : ℕ) → Through (iterators_rule g is place)
iterators_kept g is place = through_if (iterators_fault g is place) (iterator_extents is) (λ f. let b = own_iterators g is place f in record { ordered = iterators_ordered is b.own; few = b.few })

condense_kept : (o : Fold) (n : ℕ) (p : Announced) (place : ℕ) → Limited p → Kept (condense_rule o n p place)
unfolding condense_fault
condense_kept o n p place h = grind (linear, single (fold_kind o n p.kind) (n * p.promise) place (fold_ordered o n p.kind h.span.ordered))

where_kept : (o : Fold) (n : ℕ) (w p : Announced) (place : ℕ) → Limited p → Kept (condense_where_rule o n w p place)
unfolding condense_where_fault
where_kept o n w p place h =
    let k = fold_kind o n p.kind in
    grind (linear, single (widened o k) (n * (w.promise + p.promise)) place (widened_ordered o k (fold_ordered o n p.kind h.span.ordered)))

form_kept : (d : Extents) (p : Announced) (place : ℕ) → Passable d → Limited p → Kept (form_rule d p place)
form_kept d p place g h = kept_if (form_fault p.extents place) (announce d p.kind p.promise) (λ f. record { span = h.span; ordered = g.ordered; few = g.few; reads = h.reads })

pub rules_keep_the_limits : RulesKeepTheLimits
rules_keep_the_limits =
    record {
      numerals = λ n h. record { span = record { least = omega (linear, ints); most = omega (linear, ints); ordered = omega (linear, ints) }; ordered = λ a. tt; few = omega linear; reads = omega linear };
      truths = record { span = truth_bounds; ordered = λ a. tt; few = omega linear; reads = omega linear };
      names = name_kept;
      words = word_kept;
      prefixes = unary_kept;
      pairs = binary_kept;
      functions = reduce_kept;
      trims = trim_kept;
      slices = slice_kept;
      iterators = iterators_kept;
      condenses = condense_kept;
      wheres = where_kept;
      forms = form_kept;
      queries = λ p h. read (announce p.extents p.kind (cells p.extents * p.promise)) 0 h.span h.ordered h.few;
    }
