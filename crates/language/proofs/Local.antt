-- A cell depends only on cells inside the coverages' domains and on the coordinates of its own axes; so do its reads.
use Rattle.std.proofs.Common.{◌≡◌, ℕ, zero, suc, ◌/◌, Bool, true, false, cond, not, ◌||◌, List, [], ◌∷◌, ℤ, Some, None, Option, sym, refl, ap, subst, eq-eqb}
use borrow.Author.Tests.{clash}
use Rattle.std.specs.Str.{bytes_eq}
use Rattle.coverage.specs.declared.axis.Axis.{Axis}
use Rattle.coverage.specs.declared.range.Range.{Range}
use Rattle.coverage.specs.declared.kind.Kind.{Kind}
use Rattle.coverage.specs.Axes.{axes, Extents, Coordinates, set_axis, put, same_axis, is_none, same_range, size_of, cells, no_axes, same_domain, Inside, AgreeAt, Agree, coord_of, point_over, point_at}
use Rattle.coverage.specs.Kinds.{Within}
use Rattle.coverage.proofs.Points.{each, member, present, axis_of_lem, none_inside, put_inside, point_inside}
use Rattle.syntax.specs.declared.Fold.{Fold}
use Rattle.syntax.specs.Tree.{Word, Iterator, Expr, at, numeral, truth, name, iterator, unary, binary, reduce, trim, slice, condense, condense_where, form}
use Rattle.language.specs.Operators.{unary_value}
use Rattle.language.specs.Spans.{span_of}
use Rattle.language.specs.Iterators.{Ranges, Places, iterator_extents, bind_ranges, bind_places}
use Rattle.language.specs.Typing.{About, Described, named_extents, joint_extents, domain_of, kind_of}
use Rattle.language.specs.Faults.{domains_fit, is_bound, fault_of}
use Rattle.language.specs.Values.{Looks, of_one, at_position, Pick, picked, gather, outcome, fold_of, value_at}
use Rattle.language.specs.Reads.{reads_from, sum_of, reads_at}
use Rattle.language.specs.Laws.{OrderedDomains, CellsOfTheirKind, CellsAlike}
use Rattle.language.specs.Results.{In}
use Rattle.language.proofs.Domains.{pair_inside, trim_inside_lem, iterators_ordered, Stand, bound}
use Rattle.language.proofs.Rules.{name_accepted, iterator_accepted, unary_accepted, binary_accepted, reduce_accepted, trim_accepted, slice_accepted, condense_accepted, where_accepted, form_accepted}
use Rattle.language.proofs.Operands.{position_holds}
use Rattle.language.proofs.Within.{domain_ordered, within}

agree_of : (r : Option Range) (x y : ℤ) → x ≡ y → AgreeAt r x y
agree_of None x y e = tt
agree_of (Some r) x y e = e

none_at : (r : Option Range) (x y : ℤ) → is_none r ≡ true → AgreeAt r x y
none_at None x y e = tt
none_at (Some r) x y e = absurd (clash e)

none_agree : (d : Extents) (p q : Coordinates) → no_axes d ≡ true → Agree d p q
none_agree d p q h a = none_at (d a) (p a) (q a) (each (λ b. is_none (d b)) h a)

same_at : (q r : Option Range) (x y : ℤ) → same_range q r ≡ true → AgreeAt q x y → AgreeAt r x y
same_at None None x y h k = tt
same_at None (Some r) x y h k = absurd (clash h)
same_at (Some q) None x y h k = tt
same_at (Some q) (Some r) x y h k = k

pair_agree : (d e : Extents) (p q : Coordinates) → domains_fit d e ≡ true → Agree (joint_extents d e) p q → Agree d p q × Agree e p q
pair_agree d e p q t h = go (no_axes d) refl t h
  where
    right : (b : Bool) → no_axes e ≡ b → (b || same_domain d e) ≡ true → Agree d p q → Agree e p q
    right true w t h a = none_agree e p q w a
    right false w t h a = same_at (d a) (e a) (p a) (q a) (each (λ b. same_range (d b) (e b)) t a) (h a)

    go : (b : Bool) → no_axes d ≡ b → (b || (no_axes e || same_domain d e)) ≡ true → ((a : Axis) → AgreeAt (cond b (e a) (d a)) (p a) (q a)) → Agree d p q × Agree e p q
    go true w t h = (none_agree d p q w, h)
    go false w t h = (h, right (no_axes e) refl t h)

put_agree : (d : Extents) (p q : Coordinates) (a : Axis) (i : ℤ) → Agree (set_axis d a None) p q → Agree d (put p a i) (put q a i)
put_agree d p q a i h b = go (same_axis a b) (h b)
  where
    go : (s : Bool) → AgreeAt (cond s None (d b)) (p b) (q b) → AgreeAt (d b) (cond s i (p b)) (cond s i (q b))
    go true l = agree_of (d b) i i refl
    go false l = l

set_agree : (d : Extents) (p q : Coordinates) (a : Axis) (r : Range) → Agree (set_axis d a (Some r)) p q → Agree d p q
set_agree d p q a r h b = go (same_axis a b) (h b)
  where
    go : (s : Bool) → AgreeAt (cond s (Some r) (d b)) (p b) (q b) → AgreeAt (d b) (p b) (q b)
    go true l = agree_of (d b) (p b) (q b) l
    go false l = l

coord_at : (r : Option Range) (n : ℕ) (x y : ℤ) → AgreeAt r (coord_of r n x) (coord_of r n y)
coord_at None n x y = tt
coord_at (Some r) n x y = refl

point_over_agree : (list : List Axis) (d : Extents) (n : ℕ) (p q : Coordinates) (a : Axis) → member a list ≡ true → AgreeAt (d a) (point_over list d n p a) (point_over list d n q a)
point_over_agree [] d n p q a m = absurd (clash m)
point_over_agree (b ∷ rest) d n p q a m = go (same_axis b a) refl m (point_over_agree rest d (n / size_of (d b)) p q a)
  where
    go : (s : Bool) → same_axis b a ≡ s → cond s true (member a rest) ≡ true → (member a rest ≡ true → AgreeAt (d a) (point_over rest d (n / size_of (d b)) p a) (point_over rest d (n / size_of (d b)) q a)) →
        AgreeAt (d a) (cond s (coord_of (d b) n (p b)) (point_over rest d (n / size_of (d b)) p a)) (cond s (coord_of (d b) n (q b)) (point_over rest d (n / size_of (d b)) q a))
    go true e m i = subst (λ (c : Axis). AgreeAt (d c) (coord_of (d b) n (p b)) (coord_of (d b) n (q b))) (axis_of_lem b a e) (coord_at (d b) n (p b) (q b))
    go false e m i = i m

point_agree : (d : Extents) (n : ℕ) (p q : Coordinates) → Agree d (point_at d n p) (point_at d n q)
unfolding point_at
point_agree d n p q a = point_over_agree axes d n p q a (present a)

abbrev pub SamePlaces : Ranges → Places → Places → Type 0
SamePlaces g v u = (w : Word) → AgreeAt (g w) (v w) (u w)

bound_agree : (is : List Iterator) (g : Ranges) (v u : Places) (p q : Coordinates) → Agree (iterator_extents is) p q → SamePlaces g v u → SamePlaces (bind_ranges is g) (bind_places is p v) (bind_places is q u)
bound_agree [] g v u p q h f w = f w
bound_agree (i ∷ rest) g v u p q h f w = go (bytes_eq i.word w) (bound_agree rest g v u p q (set_agree (iterator_extents rest) p q i.axis i.range h) f w)
  where
    here : (s : Bool) → s ≡ true → AgreeAt (cond s (Some i.range) (iterator_extents rest i.axis)) (p i.axis) (q i.axis) → p i.axis ≡ q i.axis
    here true e l = l
    here false e l = absurd (clash e)

    go : (s : Bool) → AgreeAt (bind_ranges rest g w) (bind_places rest p v w) (bind_places rest q u w) →
        AgreeAt (cond s (Some i.range) (bind_ranges rest g w)) (cond s (p i.axis) (bind_places rest p v w)) (cond s (q i.axis) (bind_places rest q u w))
    go true l = here (same_axis i.axis i.axis) (eq-eqb _ _ refl) (h i.axis)
    go false l = l

iterator_same : (r : Option Range) (x y : ℤ) → not (is_none r) ≡ true → AgreeAt r x y → x ≡ y
iterator_same None x y e h = absurd (clash e)
iterator_same (Some r) x y e h = h

fold_same : (o : Fold) (f g : ℕ → Pick) → ((n : ℕ) → f n ≡ g n) → (n : ℕ) → gather o f n ≡ gather o g n
fold_same o f g h zero = refl
fold_same o f g h (suc n) = rw (fold_same o f g h n, h n) refl

sum_same : (f g : ℕ → ℕ) → ((n : ℕ) → f n ≡ g n) → (n : ℕ) → sum_of f n ≡ sum_of g n
sum_same f g h zero = refl
sum_same f g h (suc n) = rw (sum_same f g h n, h n) refl

-- the same position, and the same at each position that it may be
position_same : (k : Kind) (x y : Option ℤ) (f g : ℤ → Option ℤ) (a b : ℤ → ℕ) → Within k x → x ≡ y → ((i : ℤ) → In (span_of k) i → (f i ≡ g i) × (a i ≡ b i)) → (at_position x f ≡ at_position y g) × (reads_from x a ≡ reads_from y b)
position_same k None y f g a b w e h = (rw (sym e) refl, rw (sym e) refl)
position_same k (Some i) y f g a b w e h = let z = h i w in (rw (sym e) z.0, rw (sym e) z.1)

module _ (about : Described) (ordered : OrderedDomains about) (look other : Looks) (kinds : CellsOfTheirKind about look) (alike : CellsAlike about look other) where
  abbrev Same : Places → Places → Expr → Coordinates → Coordinates → Type 0
  Same v u e p q = (value_at about look v e p ≡ value_at about other u e q) × (reads_at about look v e p ≡ reads_at about other u e q)

  name_same : (w : Word) (p q : Coordinates) → is_bound (about w) ≡ true → Inside (named_extents (about w)) p → Agree (named_extents (about w)) p q → look w p ≡ other w q
  name_same w p q t h k = go (about w) refl t h k
    where
      go : (o : Option About) → about w ≡ o → is_bound o ≡ true → Inside (named_extents o) p → Agree (named_extents o) p q → look w p ≡ other w q
      go None e t h k = absurd (clash t)
      go (Some a) e t h k = alike w a e p q h k

  pub same : (g : Ranges) (v u : Places) → Stand g v → SamePlaces g v u → (place : ℕ) (e : Expr) → fault_of about g place e ≡ None → (p q : Coordinates) → Inside (domain_of about e) p → Agree (domain_of about e) p q → Same v u e p q
  same g v u fit sv place (at here e) f p q h k = same g v u fit sv here e f p q h k
  same g v u fit sv place (numeral n) f p q h k = (refl, refl)
  same g v u fit sv place (truth b) f p q h k = (refl, refl)
  same g v u fit sv place (name w) f p q h k = (name_same w p q (name_accepted about g place w f) h k, refl)
  same g v u fit sv place (iterator w) f p q h k =
      let S : ℤ → Option ℤ = λ i. Some i in (ap S (iterator_same (g w) (v w) (u w) (iterator_accepted about g place w f) (sv w)), refl)
  same g v u fit sv place (unary o e) f p q h k =
      let z = same g v u fit sv place e (unary_accepted about g place o e f).part p q h k in (ap (of_one (unary_value o)) z.0, z.1)
  same g v u fit sv place (binary o d e) f p q h k =
      let b = binary_accepted about g place o d e f in
      let i = pair_inside (domain_of about d) (domain_of about e) p b.domains h in
      let c = pair_agree (domain_of about d) (domain_of about e) p q b.domains k in
      let x = same g v u fit sv place d b.left p q i.0 c.0 in
      let y = same g v u fit sv place e b.right p q i.1 c.1 in
      (rw (x.0, y.0) refl, rw (x.1, y.1) refl)
  same g v u fit sv place (reduce r e) f p q h k =
      let b = reduce_accepted about g place r e f in
      let z : (n : ℕ) → Same v u e (point_at (domain_of about e) n p) (point_at (domain_of about e) n q) = λ n. same g v u fit sv place e b.part (point_at (domain_of about e) n p) (point_at (domain_of about e) n q)
      (point_inside (domain_of about e) n p (domain_ordered about ordered g place e b.part)) (point_agree (domain_of about e) n p q) in
      (ap (outcome (fold_of r)) (fold_same (fold_of r) _ _ (λ n. ap picked (z n).0) (cells (domain_of about e))), sum_same _ _ (λ n. (z n).1) (cells (domain_of about e)))
  same g v u fit sv place (trim t a r e) f p q h k =
      let b = trim_accepted about g place t a r e f in
      same g v u fit sv place e b.part p q (trim_inside_lem (domain_of about e) p a r b.inside h) (set_agree (domain_of about e) p q a r k)
  same g v u fit sv place (slice t a e x) f p q h k =
      let b = slice_accepted about g place t a e x f in
      let i = none_inside (domain_of about x) p b.single in
      let z = same g v u fit sv place x b.position p q i (none_agree (domain_of about x) p q b.single) in
      let y = position_same (kind_of about g x) (value_at about look v x p) (value_at about other u x q) (λ i. value_at about look v e (put p a i)) (λ i. value_at about other u e (put q a i)) (λ i. reads_at about look v e (put p a i)) (λ i. reads_at about other u e (put q a i))
      (within about ordered look kinds g v fit place x b.position p i) z.0
      (λ i l. same g v u fit sv place e b.part (put p a i) (put q a i) (put_inside (domain_of about e) p a i h (position_holds (domain_of about e a) (kind_of about g x) i b.inside b.fits l)) (put_agree (domain_of about e) p q a i k)) in
      (y.0, rw (y.1, z.1) refl)
  same g v u fit sv place (condense o is e) f p q h k =
      let b = condense_accepted about g place is o e f in
      let ok = b.iterators.own in
      let v' : ℕ → Places = λ n. bind_places is (point_at (iterator_extents is) n p) v in
      let u' : ℕ → Places = λ n. bind_places is (point_at (iterator_extents is) n q) u in
      let z : (n : ℕ) → Same (v' n) (u' n) e p q = λ n. same (bind_ranges is g) (v' n) (u' n) (bound is g v (point_at (iterator_extents is) n p) ok (point_inside (iterator_extents is) n p (iterators_ordered is ok)) fit)
      (bound_agree is g v u (point_at (iterator_extents is) n p) (point_at (iterator_extents is) n q) (point_agree (iterator_extents is) n p q) sv) place e b.body p q (none_inside (domain_of about e) p b.single) (none_agree (domain_of about e) p q b.single) in
      (ap (outcome o) (fold_same o _ _ (λ n. ap picked (z n).0) (cells (iterator_extents is))), sum_same _ _ (λ n. (z n).1) (cells (iterator_extents is)))
  same g v u fit sv place (condense_where o is w e) f p q h k =
      let b = where_accepted about g place is o w e f in
      let ok = b.iterators.own in
      let v' : ℕ → Places = λ n. bind_places is (point_at (iterator_extents is) n p) v in
      let u' : ℕ → Places = λ n. bind_places is (point_at (iterator_extents is) n q) u in
      let fit' : (n : ℕ) → Stand (bind_ranges is g) (v' n) = λ n. bound is g v (point_at (iterator_extents is) n p) ok (point_inside (iterator_extents is) n p (iterators_ordered is ok)) fit in
      let sv' : (n : ℕ) → SamePlaces (bind_ranges is g) (v' n) (u' n) = λ n. bound_agree is g v u (point_at (iterator_extents is) n p) (point_at (iterator_extents is) n q) (point_agree (iterator_extents is) n p q) sv in
      let y : (n : ℕ) → Same (v' n) (u' n) w p q = λ n. same (bind_ranges is g) (v' n) (u' n) (fit' n) (sv' n) place w b.test p q (none_inside (domain_of about w) p b.test_single) (none_agree (domain_of about w) p q b.test_single) in
      let z : (n : ℕ) → Same (v' n) (u' n) e p q = λ n. same (bind_ranges is g) (v' n) (u' n) (fit' n) (sv' n) place e b.body p q (none_inside (domain_of about e) p b.single) (none_agree (domain_of about e) p q b.single) in
      (ap (outcome o) (fold_same o _ _ (λ n. rw ((y n).0, (z n).0) refl) (cells (iterator_extents is))), sum_same _ _ (λ n. rw ((y n).0, (y n).1, (z n).1) refl) (cells (iterator_extents is)))
  same g v u fit sv place (form is e) f p q h k =
      let b = form_accepted about g place is e f in
      same (bind_ranges is g) (bind_places is p v) (bind_places is q u) (bound is g v p b.iterators.own h fit) (bound_agree is g v u p q k sv) place e b.body p q (none_inside (domain_of about e) p b.single) (none_agree (domain_of about e) p q b.single)
