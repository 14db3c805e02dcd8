-- Where nothing is null and nothing is skipped, every value is known and the reads are the promise.
use Rattle.std.proofs.Common.{◌≡◌, ℕ, zero, suc, ◌*◌, ◌≤◌, true, ℤ, Some, None, Option, refl, arith}
use borrow.Author.Tests.{clash}
use Rattle.coverage.specs.declared.kind.Kind.{Kind}
use Rattle.coverage.specs.Axes.{Coordinates, put, cells, Inside, point_at}
use Rattle.coverage.specs.Kinds.{Within}
use Rattle.coverage.proofs.Points.{none_inside, put_inside, point_inside}
use Rattle.syntax.specs.declared.Fold.{Fold}
use Rattle.syntax.specs.Tree.{Word, Expr, at, numeral, truth, name, iterator, unary, binary, reduce, trim, slice, condense, condense_where, form}
use Rattle.language.specs.Operators.{unary_value, binary_value}
use Rattle.language.specs.Spans.{span_of}
use Rattle.language.specs.Iterators.{Ranges, Places, iterator_extents, bind_ranges, bind_places}
use Rattle.language.specs.Typing.{About, Described, named_extents, domain_of, kind_of, promise_of}
use Rattle.language.specs.Faults.{is_bound, fault_of}
use Rattle.language.specs.Values.{Looks, of_one, of_both, at_position, Pick, null, nothing, value, picked, join, gather, outcome, fold_of, value_at}
use Rattle.language.specs.Reads.{reads_from, sum_of, reads_at}
use Rattle.language.specs.Laws.{OrderedDomains, CellsOfTheirKind, Known, AllKnown, NoWhere}
use Rattle.language.specs.Results.{In}
use Rattle.language.proofs.Domains.{pair_inside, trim_inside_lem, iterators_ordered, Stand, bound}
use Rattle.language.proofs.Rules.{name_accepted, unary_accepted, binary_accepted, reduce_accepted, trim_accepted, slice_accepted, condense_accepted, form_accepted}
use Rattle.language.proofs.Operands.{position_holds}
use Rattle.language.proofs.Within.{domain_ordered, within}
use Rattle.language.proofs.Sizes.{some_cell}

one_known : (f : ℤ → ℤ) (x : Option ℤ) → Known x → Known (of_one f x)
one_known f None h = h
one_known f (Some x) h = tt

both_known : (f : ℤ → ℤ → ℤ) (x y : Option ℤ) → Known x → Known y → Known (of_both f x y)
both_known f None y h k = h
both_known f (Some x) None h k = k
both_known f (Some x) (Some y) h k = tt

position_exact : (k : Kind) (x : Option ℤ) (f : ℤ → Option ℤ) (r : ℤ → ℕ) (n : ℕ) → Within k x → Known x → ((i : ℤ) → In (span_of k) i → Known (f i) × (r i ≡ n)) → Known (at_position x f) × (reads_from x r ≡ n)
position_exact k None f r n w h l = absurd h
position_exact k (Some i) f r n w h l = l i w

-- what has been gathered is nothing or a value, and from the first known value on a value
abbrev NotNull : Pick → Type 0
NotNull null = ⊥
NotNull nothing = Unit {0}
NotNull (value v) = Unit {0}

abbrev IsValue : Pick → Type 0
IsValue null = ⊥
IsValue nothing = ⊥
IsValue (value v) = Unit {0}

value_not_null : (x : Pick) → IsValue x → NotNull x
value_not_null null h = h
value_not_null nothing h = tt
value_not_null (value v) h = tt

join_value : (o : Fold) (x : Pick) (y : Option ℤ) → NotNull x → Known y → IsValue (join o x (picked y))
join_value o null y h k = h
join_value o nothing None h k = k
join_value o nothing (Some b) h k = tt
join_value o (value a) None h k = k
join_value o (value a) (Some b) h k = tt

gather_not_null : (o : Fold) (f : ℕ → Option ℤ) → ((n : ℕ) → Known (f n)) → (n : ℕ) → NotNull (gather o (λ i. picked (f i)) n)
gather_not_null o f h zero = tt
gather_not_null o f h (suc n) = value_not_null (gather o (λ i. picked (f i)) (suc n)) (join_value o (gather o (λ i. picked (f i)) n) (f n) (gather_not_null o f h n) (h n))

outcome_known : (o : Fold) (x : Pick) → IsValue x → Known (outcome o x)
outcome_known o null h = h
outcome_known o nothing h = absurd h
outcome_known o (value v) h = tt

whole_known : (o : Fold) (f : ℕ → Option ℤ) → ((n : ℕ) → Known (f n)) → (n : ℕ) → 1 ≤ n → Known (outcome o (gather o (λ i. picked (f i)) n))
whole_known o f h zero l = absurd (omega arith)
whole_known o f h (suc n) l =
    outcome_known o (gather o (λ i. picked (f i)) (suc n)) (join_value o (gather o (λ i. picked (f i)) n) (f n) (gather_not_null o f h n) (h n))

pub sum_exact : (f : ℕ → ℕ) (k : ℕ) → ((i : ℕ) → f i ≡ k) → (n : ℕ) → sum_of f n ≡ n * k
sum_exact f k h zero = omega arith
sum_exact f k h (suc n) = let a = sum_exact f k h n in let b = h n in grind arith

module _ (about : Described) (ordered : OrderedDomains about) (look : Looks) (kinds : CellsOfTheirKind about look) (known : AllKnown about look) where
  abbrev Exact : Places → Expr → Coordinates → Type 0
  Exact v e p = Known (value_at about look v e p) × (reads_at about look v e p ≡ promise_of about e)

  name_known : (w : Word) (p : Coordinates) → is_bound (about w) ≡ true → Inside (named_extents (about w)) p → Known (look w p)
  name_known w p t h = go (about w) refl t h
    where
      go : (o : Option About) → about w ≡ o → is_bound o ≡ true → Inside (named_extents o) p → Known (look w p)
      go None e t h = absurd (clash t)
      go (Some a) e t h = known w a e p h

  pub exact : (g : Ranges) (v : Places) → Stand g v → (place : ℕ) (e : Expr) → fault_of about g place e ≡ None → NoWhere e → (p : Coordinates) → Inside (domain_of about e) p → Exact v e p
  exact g v fit place (at here e) f s p h = exact g v fit here e f s p h
  exact g v fit place (numeral n) f s p h = (tt, refl)
  exact g v fit place (truth b) f s p h = (tt, refl)
  exact g v fit place (name w) f s p h = (name_known w p (name_accepted about g place w f) h, refl)
  exact g v fit place (iterator w) f s p h = (tt, refl)
  exact g v fit place (unary o e) f s p h =
      let x = exact g v fit place e (unary_accepted about g place o e f).part s p h in
      (one_known (unary_value o) (value_at about look v e p) x.0, x.1)
  exact g v fit place (binary o d e) f s p h =
      let b = binary_accepted about g place o d e f in
      let i = pair_inside (domain_of about d) (domain_of about e) p b.domains h in
      let x = exact g v fit place d b.left s.0 p i.0 in
      let y = exact g v fit place e b.right s.1 p i.1 in
      (both_known (binary_value o) (value_at about look v d p) (value_at about look v e p) x.0 y.0, rw (x.1, y.1) refl)
  exact g v fit place (reduce r e) f s p h =
      let b = reduce_accepted about g place r e f in
      let o = domain_ordered about ordered g place e b.part in
      let x : (n : ℕ) → Exact v e (point_at (domain_of about e) n p) = λ n. exact g v fit place e b.part s (point_at (domain_of about e) n p) (point_inside (domain_of about e) n p o) in (
        whole_known (fold_of r) (λ n. value_at about look v e (point_at (domain_of about e) n p)) (λ n. (x n).0) (cells (domain_of about e)) (some_cell (domain_of about e) o),
        sum_exact (λ n. reads_at about look v e (point_at (domain_of about e) n p)) (promise_of about e) (λ n. (x n).1) (cells (domain_of about e)),
      )
  exact g v fit place (trim t a r e) f s p h =
      let b = trim_accepted about g place t a r e f in
      exact g v fit place e b.part s p (trim_inside_lem (domain_of about e) p a r b.inside h)
  exact g v fit place (slice t a e q) f s p h =
      let b = slice_accepted about g place t a e q f in
      let i = none_inside (domain_of about q) p b.single in
      let x = exact g v fit place q b.position s.1 p i in
      let y = position_exact (kind_of about g q) (value_at about look v q p) (λ i. value_at about look v e (put p a i)) (λ i. reads_at about look v e (put p a i)) (promise_of about e)
      (within about ordered look kinds g v fit place q b.position p i) x.0
      (λ i l. exact g v fit place e b.part s.0 (put p a i) (put_inside (domain_of about e) p a i h (position_holds (domain_of about e a) (kind_of about g q) i b.inside b.fits l))) in
      (y.0, rw (y.1, x.1) refl)
  exact g v fit place (condense o is e) f s p h =
      let b = condense_accepted about g place is o e f in
      let ok = iterators_ordered is b.iterators.own in
      let u : ℕ → Places = λ n. bind_places is (point_at (iterator_extents is) n p) v in
      let x : (n : ℕ) → Exact (u n) e p = λ n. exact (bind_ranges is g) (u n) (bound is g v (point_at (iterator_extents is) n p) b.iterators.own (point_inside (iterator_extents is) n p ok) fit) place e b.body s p (none_inside (domain_of about e) p b.single) in (
        whole_known o (λ n. value_at about look (u n) e p) (λ n. (x n).0) (cells (iterator_extents is)) (some_cell (iterator_extents is) ok),
        sum_exact (λ n. reads_at about look (u n) e p) (promise_of about e) (λ n. (x n).1) (cells (iterator_extents is)),
      )
  exact g v fit place (condense_where o is w e) f s p h = absurd s
  exact g v fit place (form is e) f s p h =
      let b = form_accepted about g place is e f in
      exact (bind_ranges is g) (bind_places is p v) (bound is g v p b.iterators.own h fit) place e b.body s p (none_inside (domain_of about e) p b.single)
