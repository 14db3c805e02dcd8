-- A value lies in the announced kind.
use Rattle.std.proofs.Common.{◌≡◌, ℕ, Bool, true, false, cond, Some, None, Option, refl, arith as linear}
use borrow.Author.Tests.{clash}
use Rattle.std.proofs.lemmas.Int.{ints}
use Rattle.coverage.specs.declared.axis.Axis.{Axis}
use Rattle.coverage.specs.declared.range.Range.{Range}
use Rattle.coverage.specs.Axes.{Coordinates, same_axis, put, no_axes, cells, Inside, Ordered, point_at}
use Rattle.coverage.specs.Kinds.{Within}
use Rattle.coverage.proofs.Points.{none_inside, put_inside, point_inside}
use Rattle.syntax.specs.Tree.{Word, Expr, at, numeral, truth, name, iterator, unary, binary, reduce, trim, slice, condense, condense_where, form}
use Rattle.language.specs.Iterators.{Ranges, Places, iterator_extents, bind_ranges, bind_places}
use Rattle.language.specs.Typing.{About, Described, named_extents, named_kind, domain_of, kind_of}
use Rattle.language.specs.Faults.{is_bound, fault_of}
use Rattle.language.specs.Values.{Looks, picked_where, value_at}
use Rattle.language.specs.Laws.{OrderedDomains, CellsOfTheirKind}
use Rattle.language.proofs.Domains.{pair_inside, trim_inside_lem, trim_ordered, iterators_ordered, Stand, bound}
use Rattle.language.proofs.Rules.{name_accepted, iterator_accepted, unary_accepted, binary_accepted, reduce_accepted, trim_accepted, slice_accepted, condense_accepted, where_accepted, form_accepted}
use Rattle.language.proofs.Operands.{bit_in, iterator_in, unary_in, binary_in, position_in, position_holds}
use Rattle.language.proofs.Folds.{reduce_in, whole_in, pick_in, picked_where_in}

pub cond_ordered : (b : Bool) (q r : Option Range) → Ordered q → Ordered r → Ordered (cond b q r)
cond_ordered true q r h k = h
cond_ordered false q r h k = k

module _ (about : Described) (ordered : OrderedDomains about) where
  named_ordered : (w : Word) (a : Axis) → Ordered (named_extents (about w) a)
  named_ordered w a = go (about w) refl
    where
      go : (o : Option About) → about w ≡ o → Ordered (named_extents o a)
      go None e = tt
      go (Some b) e = ordered w b e a

  -- accepted domains have the ends of their ranges in order
  pub domain_ordered : (g : Ranges) (place : ℕ) (e : Expr) → fault_of about g place e ≡ None → (a : Axis) → Ordered (domain_of about e a)
  domain_ordered g place (at here e) f a = domain_ordered g here e f a
  domain_ordered g place (numeral n) f a = tt
  domain_ordered g place (truth b) f a = tt
  domain_ordered g place (name w) f a = named_ordered w a
  domain_ordered g place (iterator w) f a = tt
  domain_ordered g place (unary o e) f a = domain_ordered g place e (unary_accepted about g place o e f).part a
  domain_ordered g place (binary o d e) f a =
      let b = binary_accepted about g place o d e f in
      cond_ordered (no_axes (domain_of about d)) (domain_of about e a) (domain_of about d a) (domain_ordered g place e b.right a) (domain_ordered g place d b.left a)
  domain_ordered g place (reduce r e) f a = tt
  domain_ordered g place (trim t b r e) f a =
      let h = trim_accepted about g place t b r e f in
      cond_ordered (same_axis b a) (Some r) (domain_of about e a) (trim_ordered (domain_of about e b) r h.inside) (domain_ordered g place e h.part a)
  domain_ordered g place (slice t b e q) f a =
      cond_ordered (same_axis b a) None (domain_of about e a) tt (domain_ordered g place e (slice_accepted about g place t b e q f).part a)
  domain_ordered g place (condense o is e) f a = tt
  domain_ordered g place (condense_where o is w e) f a = tt
  domain_ordered g place (form is e) f a = iterators_ordered is (form_accepted about g place is e f).iterators.own a

  module _ (look : Looks) (kinds : CellsOfTheirKind about look) where
    name_in : (w : Word) (p : Coordinates) → is_bound (about w) ≡ true → Inside (named_extents (about w)) p → Within (named_kind (about w)) (look w p)
    name_in w p t h = go (about w) refl t h
      where
        go : (o : Option About) → about w ≡ o → is_bound o ≡ true → Inside (named_extents o) p → Within (named_kind o) (look w p)
        go None e t h = absurd (clash t)
        go (Some a) e t h = kinds w a e p h

    -- at every point of its domain, with every iterator within its range
    pub within : (g : Ranges) (v : Places) → Stand g v → (place : ℕ) (e : Expr) → fault_of about g place e ≡ None → (p : Coordinates) → Inside (domain_of about e) p → Within (kind_of about g e) (value_at about look v e p)
    within g v fit place (at here e) f p h = within g v fit here e f p h
    within g v fit place (numeral n) f p h = (omega (linear, ints), omega (linear, ints))
    within g v fit place (truth b) f p h = bit_in b
    within g v fit place (name w) f p h = name_in w p (name_accepted about g place w f) h
    within g v fit place (iterator w) f p h = iterator_in (g w) (v w) (iterator_accepted about g place w f) (fit w)
    within g v fit place (unary o e) f p h =
        unary_in o (kind_of about g e) (value_at about look v e p) (within g v fit place e (unary_accepted about g place o e f).part p h)
    within g v fit place (binary o d e) f p h =
        let b = binary_accepted about g place o d e f in
        let i = pair_inside (domain_of about d) (domain_of about e) p b.domains h in
        binary_in o (kind_of about g d) (kind_of about g e) (value_at about look v d p) (value_at about look v e p) b.divisor
        (within g v fit place d b.left p i.0) (within g v fit place e b.right p i.1)
    within g v fit place (reduce r e) f p h =
        let b = reduce_accepted about g place r e f in
        let d = domain_of about e in
        reduce_in r (kind_of about g e) (λ n. value_at about look v e (point_at d n p)) b.fits
        (λ n. within g v fit place e b.part (point_at d n p) (point_inside d n p (domain_ordered g place e b.part))) (cells d)
    within g v fit place (trim t a r e) f p h =
        let b = trim_accepted about g place t a r e f in
        within g v fit place e b.part p (trim_inside_lem (domain_of about e) p a r b.inside h)
    within g v fit place (slice t a e q) f p h =
        let b = slice_accepted about g place t a e q f in
        position_in (kind_of about g q) (kind_of about g e) (value_at about look v q p) (λ i. value_at about look v e (put p a i))
        (within g v fit place q b.position p (none_inside (domain_of about q) p b.single))
        (λ i l. within g v fit place e b.part (put p a i) (put_inside (domain_of about e) p a i h (position_holds (domain_of about e a) (kind_of about g q) i b.inside b.fits l)))
    within g v fit place (condense o is e) f p h =
        let b = condense_accepted about g place is o e f in
        let d = iterator_extents is in
        let u : ℕ → Places = λ n. bind_places is (point_at (iterator_extents is) n p) v in
        whole_in o (kind_of about (bind_ranges is g) e) (λ n. value_at about look (u n) e p) b.fits
        (λ n. within (bind_ranges is g) (u n) (bound is g v (point_at d n p) b.iterators.own (point_inside d n p (iterators_ordered is b.iterators.own)) fit) place e b.body p
        (none_inside (domain_of about e) p b.single)) (cells d)
    within g v fit place (condense_where o is w e) f p h =
        let b = where_accepted about g place is o w e f in
        let d = iterator_extents is in
        let u : ℕ → Places = λ n. bind_places is (point_at (iterator_extents is) n p) v in
        pick_in o (kind_of about (bind_ranges is g) e) (λ n. picked_where (value_at about look (u n) w p) (value_at about look (u n) e p)) b.fits
        (λ n. picked_where_in (kind_of about (bind_ranges is g) e) (value_at about look (u n) w p) (value_at about look (u n) e p)
        (within (bind_ranges is g) (u n) (bound is g v (point_at d n p) b.iterators.own (point_inside d n p (iterators_ordered is b.iterators.own)) fit) place e b.body p
        (none_inside (domain_of about e) p b.single))) (cells d)
    within g v fit place (form is e) f p h =
        let b = form_accepted about g place is e f in
        within (bind_ranges is g) (bind_places is p v) (bound is g v p b.iterators.own h fit) place e b.body p (none_inside (domain_of about e) p b.single)
