-- Null may become a value, a value never changes.
use Rattle.std.proofs.Common.{◌≡◌, ℕ, zero, suc, Bool, true, false, cond, ℤ, Some, None, Option, sym, refl, ap, subst}
use borrow.Author.Tests.{clash}
use Rattle.coverage.specs.declared.kind.Kind.{Kind}
use Rattle.coverage.specs.Axes.{Coordinates, cells, point_at, put, Inside}
use Rattle.coverage.specs.Kinds.{Within}
use Rattle.coverage.proofs.Points.{none_inside, put_inside, point_inside}
use Rattle.syntax.specs.declared.Fold.{Fold}
use Rattle.syntax.specs.Tree.{Word, Expr, at, numeral, truth, name, iterator, unary, binary, reduce, trim, slice, condense, condense_where, form}
use Rattle.language.specs.Operators.{is_true, unary_value, binary_value}
use Rattle.language.specs.Spans.{span_of}
use Rattle.language.specs.Iterators.{Ranges, Places, iterator_extents, bind_ranges, bind_places}
use Rattle.language.specs.Typing.{About, Described, named_extents, domain_of, kind_of}
use Rattle.language.specs.Faults.{is_bound, fault_of}
use Rattle.language.specs.Values.{Looks, of_one, of_both, at_position, Pick, null, nothing, value, picked, picked_where, join, gather, of_nothing, outcome, fold_of, value_at}
use Rattle.language.specs.Laws.{OrderedDomains, CellsOfTheirKind, KnownCellsStay}
use Rattle.language.specs.Results.{In}
use Rattle.language.proofs.Domains.{pair_inside, trim_inside_lem, iterators_ordered, Stand, bound}
use Rattle.language.proofs.Rules.{name_accepted, unary_accepted, binary_accepted, reduce_accepted, trim_accepted, slice_accepted, condense_accepted, where_accepted, form_accepted}
use Rattle.language.proofs.Operands.{position_holds}
use Rattle.language.proofs.Within.{domain_ordered, within}

-- y is x, if x is a value
abbrev pub Grown : Option ℤ → Option ℤ → Type 0
Grown None y = Unit {0}
Grown (Some v) y = y ≡ Some v

abbrev PGrown : Pick → Pick → Type 0
PGrown null y = Unit {0}
PGrown nothing y = y ≡ nothing
PGrown (value v) y = y ≡ value v

one_grows : (f : ℤ → ℤ) (x y : Option ℤ) → Grown x y → Grown (of_one f x) (of_one f y)
one_grows f None y h = tt
one_grows f (Some v) y h = ap (of_one f) h

both_grows : (f : ℤ → ℤ → ℤ) (x y x' y' : Option ℤ) → Grown x x' → Grown y y' → Grown (of_both f x y) (of_both f x' y')
both_grows f None y x' y' h k = tt
both_grows f (Some a) None x' y' h k = tt
both_grows f (Some a) (Some b) x' y' h k = rw (h, k) refl

position_grows : (k : Kind) (x y : Option ℤ) (f g : ℤ → Option ℤ) → Within k x → Grown x y → ((i : ℤ) → In (span_of k) i → Grown (f i) (g i)) → Grown (at_position x f) (at_position y g)
position_grows k None y f g w h l = tt
position_grows k (Some i) y f g w h l = subst (λ (z : Option ℤ). Grown (f i) (at_position z g)) (sym h) (l i w)

picked_grows : (x y : Option ℤ) → Grown x y → PGrown (picked x) (picked y)
picked_grows None y h = tt
picked_grows (Some v) y h = ap picked h

cond_grows : (b : Bool) (x y : Option ℤ) → Grown x y → PGrown (cond b (picked x) nothing) (cond b (picked y) nothing)
cond_grows true x y h = picked_grows x y h
cond_grows false x y h = refl

where_grows : (x y x' y' : Option ℤ) → Grown x x' → Grown y y' → PGrown (picked_where x y) (picked_where x' y')
where_grows None y x' y' h k = tt
where_grows (Some w) y x' y' h k = subst (λ (z : Option ℤ). PGrown (picked_where (Some w) y) (picked_where z y')) (sym h) (cond_grows (is_true w) y y' k)

join_grows : (o : Fold) (x y x' y' : Pick) → PGrown x x' → PGrown y y' → PGrown (join o x y) (join o x' y')
join_grows o null y x' y' h k = tt
join_grows o nothing y x' y' h k = subst (λ (z : Pick). PGrown y (join o z y')) (sym h) k
join_grows o (value a) null x' y' h k = tt
join_grows o (value a) nothing x' y' h k = rw (h, k) refl
join_grows o (value a) (value b) x' y' h k = rw (h, k) refl

gather_grows : (o : Fold) (f g : ℕ → Pick) → ((n : ℕ) → PGrown (f n) (g n)) → (n : ℕ) → PGrown (gather o f n) (gather o g n)
gather_grows o f g h zero = refl
gather_grows o f g h (suc n) = join_grows o (gather o f n) (f n) (gather o g n) (g n) (gather_grows o f g h n) (h n)

same_grows : (x y : Option ℤ) → y ≡ x → Grown x y
same_grows None y e = tt
same_grows (Some v) y e = e

outcome_grows : (o : Fold) (x y : Pick) → PGrown x y → Grown (outcome o x) (outcome o y)
outcome_grows o null y h = tt
outcome_grows o nothing y h = same_grows (of_nothing o) (outcome o y) (ap (outcome o) h)
outcome_grows o (value v) y h = ap (outcome o) h

whole_grows : (o : Fold) (f g : ℕ → Option ℤ) → ((n : ℕ) → Grown (f n) (g n)) → (n : ℕ) → Grown (outcome o (gather o (λ i. picked (f i)) n)) (outcome o (gather o (λ i. picked (g i)) n))
whole_grows o f g h n =
    outcome_grows o (gather o (λ i. picked (f i)) n) (gather o (λ i. picked (g i)) n) (gather_grows o (λ i. picked (f i)) (λ i. picked (g i)) (λ i. picked_grows (f i) (g i) (h i)) n)

grown_of : (x y : Option ℤ) → ((v : ℤ) → x ≡ Some v → y ≡ Some v) → Grown x y
grown_of None y h = tt
grown_of (Some v) y h = h v refl

module _ (about : Described) (ordered : OrderedDomains about) (look later : Looks) (kinds : CellsOfTheirKind about look) (stay : KnownCellsStay about look later) where
  name_grows : (w : Word) (p : Coordinates) → is_bound (about w) ≡ true → Inside (named_extents (about w)) p → Grown (look w p) (later w p)
  name_grows w p t h = go (about w) refl t h
    where
      go : (o : Option About) → about w ≡ o → is_bound o ≡ true → Inside (named_extents o) p → Grown (look w p) (later w p)
      go None e t h = absurd (clash t)
      go (Some a) e t h = grown_of (look w p) (later w p) (stay w a e p h)

  pub grown : (g : Ranges) (v : Places) → Stand g v → (place : ℕ) (e : Expr) → fault_of about g place e ≡ None → (p : Coordinates) → Inside (domain_of about e) p → Grown (value_at about look v e p) (value_at about later v e p)
  grown g v fit place (at here e) f p h = grown g v fit here e f p h
  grown g v fit place (numeral n) f p h = refl
  grown g v fit place (truth b) f p h = refl
  grown g v fit place (name w) f p h = name_grows w p (name_accepted about g place w f) h
  grown g v fit place (iterator w) f p h = refl
  grown g v fit place (unary o e) f p h =
      one_grows (unary_value o) (value_at about look v e p) (value_at about later v e p) (grown g v fit place e (unary_accepted about g place o e f).part p h)
  grown g v fit place (binary o d e) f p h =
      let b = binary_accepted about g place o d e f in
      let i = pair_inside (domain_of about d) (domain_of about e) p b.domains h in
      both_grows (binary_value o) (value_at about look v d p) (value_at about look v e p) (value_at about later v d p) (value_at about later v e p)
      (grown g v fit place d b.left p i.0) (grown g v fit place e b.right p i.1)
  grown g v fit place (reduce r e) f p h =
      let b = reduce_accepted about g place r e f in
      let before : ℕ → Option ℤ = λ n. value_at about look v e (point_at (domain_of about e) n p) in
      let after : ℕ → Option ℤ = λ n. value_at about later v e (point_at (domain_of about e) n p) in
      whole_grows (fold_of r) before after
      (λ n. grown g v fit place e b.part (point_at (domain_of about e) n p) (point_inside (domain_of about e) n p (domain_ordered about ordered g place e b.part))) (cells (domain_of about e))
  grown g v fit place (trim t a r e) f p h =
      let b = trim_accepted about g place t a r e f in
      grown g v fit place e b.part p (trim_inside_lem (domain_of about e) p a r b.inside h)
  grown g v fit place (slice t a e q) f p h =
      let b = slice_accepted about g place t a e q f in
      let i = none_inside (domain_of about q) p b.single in
      position_grows (kind_of about g q) (value_at about look v q p) (value_at about later v q p) (λ i. value_at about look v e (put p a i)) (λ i. value_at about later v e (put p a i))
      (within about ordered look kinds g v fit place q b.position p i) (grown g v fit place q b.position p i)
      (λ i l. grown g v fit place e b.part (put p a i) (put_inside (domain_of about e) p a i h (position_holds (domain_of about e a) (kind_of about g q) i b.inside b.fits l)))
  grown g v fit place (condense o is e) f p h =
      let b = condense_accepted about g place is o e f in
      let ok = b.iterators.own in
      let u : ℕ → Places = λ n. bind_places is (point_at (iterator_extents is) n p) v in
      whole_grows o (λ n. value_at about look (u n) e p) (λ n. value_at about later (u n) e p)
      (λ n. grown (bind_ranges is g) (u n) (bound is g v (point_at (iterator_extents is) n p) ok (point_inside (iterator_extents is) n p (iterators_ordered is ok)) fit) place e b.body p (none_inside (domain_of about e) p b.single))
      (cells (iterator_extents is))
  grown g v fit place (condense_where o is w e) f p h =
      let b = where_accepted about g place is o w e f in
      let ok = b.iterators.own in
      let u : ℕ → Places = λ n. bind_places is (point_at (iterator_extents is) n p) v in
      let s : (n : ℕ) → Stand (bind_ranges is g) (u n) = λ n. bound is g v (point_at (iterator_extents is) n p) ok (point_inside (iterator_extents is) n p (iterators_ordered is ok)) fit in
      let before : ℕ → Pick = λ n. picked_where (value_at about look (u n) w p) (value_at about look (u n) e p) in
      let after : ℕ → Pick = λ n. picked_where (value_at about later (u n) w p) (value_at about later (u n) e p) in
      outcome_grows o (gather o before (cells (iterator_extents is))) (gather o after (cells (iterator_extents is)))
      (gather_grows o before after
      (λ n. where_grows (value_at about look (u n) w p) (value_at about look (u n) e p) (value_at about later (u n) w p) (value_at about later (u n) e p)
      (grown (bind_ranges is g) (u n) (s n) place w b.test p (none_inside (domain_of about w) p b.test_single))
      (grown (bind_ranges is g) (u n) (s n) place e b.body p (none_inside (domain_of about e) p b.single)))
      (cells (iterator_extents is)))
  grown g v fit place (form is e) f p h =
      let b = form_accepted about g place is e f in
      grown (bind_ranges is g) (bind_places is p v) (bound is g v p b.iterators.own h fit) place e b.body p (none_inside (domain_of about e) p b.single)
