-- Points in the domains that rules make, and iterators that stand within their ranges.
use Rattle.std.proofs.Common.{◌≡◌, Bool, true, false, cond, ◌&&◌, ◌||◌, List, [], ◌∷◌, ℤ, ◌≤ℤ◌, Some, None, Option, refl, subst, arith, eq-eqb}
use lib.Signed.{le_z}
use borrow.Author.Tests.{clash}
use Rattle.std.specs.Str.{bytes_eq}
use Rattle.std.proofs.lemmas.Int.{ints}
use Rattle.coverage.specs.declared.range.Range.{Range}
use Rattle.coverage.specs.declared.axis.Axis.{Axis}
use Rattle.coverage.specs.Axes.{same_axis, Extents, Coordinates, set_axis, is_none, same_range, no_axes, same_domain, Holds, Inside, Ordered}
use Rattle.coverage.proofs.Bools.{and_left, and_right}
use Rattle.coverage.proofs.Points.{axis_of_lem, each, none_holds, none_inside, same_holds}
use Rattle.syntax.specs.Tree.{Word, Iterator}
use Rattle.language.specs.Iterators.{Ranges, Places, iterator_extents, bind_ranges, bind_places, own_axes}
use Rattle.language.specs.Typing.{joint_extents}
use Rattle.language.specs.Faults.{domains_fit, trim_inside}

-- a point of two operands' domain lies in the domain of each
pub pair_inside : (d e : Extents) (p : Coordinates) → domains_fit d e ≡ true → Inside (joint_extents d e) p → Inside d p × Inside e p
pair_inside d e p t h = go (no_axes d) refl t h
  where
    right : (b : Bool) → no_axes e ≡ b → (b || same_domain d e) ≡ true → Inside d p → Inside e p
    right true q t h a = none_inside e p q a
    right false q t h a = same_holds (d a) (e a) (p a) (each (λ b. same_range (d b) (e b)) t a) (h a)

    go : (b : Bool) → no_axes d ≡ b → (b || (no_axes e || same_domain d e)) ≡ true → ((a : Axis) → Holds (cond b (e a) (d a)) (p a)) → Inside d p × Inside e p
    go true q t h = (none_inside d p q, h)
    go false q t h = (h, right (no_axes e) refl t h)

trim_holds : (q : Option Range) (r : Range) (v : ℤ) → trim_inside q r ≡ true → Holds (Some r) v → Holds q v
trim_holds None r v t h = tt
trim_holds (Some q) r v t h =
    let a = and_right (le_z r.lo r.hi) _ t in
    let b = and_left (le_z q.lo r.lo) _ a in
    let c = and_right (le_z q.lo r.lo) _ a in
    (omega (arith, ints), omega (arith, ints))

-- a point of a trim lies in what is trimmed
pub trim_inside_lem : (d : Extents) (p : Coordinates) (a : Axis) (r : Range) → trim_inside (d a) r ≡ true → Inside (set_axis d a (Some r)) p → Inside d p
trim_inside_lem d p a r t h b = go (same_axis a b) refl (h b)
  where
    go : (s : Bool) → same_axis a b ≡ s → Holds (cond s (Some r) (d b)) (p b) → Holds (d b) (p b)
    go true q l = trim_holds (d b) r (p b) (subst (λ (c : Axis). trim_inside (d c) r ≡ true) (axis_of_lem a b q) t) l
    go false q l = l

pub trim_ordered : (q : Option Range) (r : Range) → trim_inside q r ≡ true → r.lo ≤ℤ r.hi
trim_ordered None r t = absurd (clash t)
trim_ordered (Some q) r t = let a = and_left (le_z r.lo r.hi) _ t in omega (arith, ints)

-- ---- iterators

pub own_ordered : (i : Iterator) (rest : List Iterator) → own_axes (i ∷ rest) ≡ true → i.range.lo ≤ℤ i.range.hi
own_ordered i rest h =
    let f = and_right (is_none (iterator_extents rest i.axis)) _ (and_left (is_none (iterator_extents rest i.axis) && le_z i.range.lo i.range.hi) (own_axes rest) h) in
    omega (arith, ints)

pub iterators_ordered : (is : List Iterator) → own_axes is ≡ true → (a : Axis) → Ordered (iterator_extents is a)
iterators_ordered [] h a = tt
iterators_ordered (i ∷ rest) h a = go (same_axis i.axis a) (iterators_ordered rest (and_right _ (own_axes rest) h) a)
  where
    go : (s : Bool) → Ordered (iterator_extents rest a) → Ordered (cond s (Some i.range) (iterator_extents rest a))
    go true k = own_ordered i rest h
    go false k = k

rest_inside : (d : Extents) (a : Axis) (r : Range) (p : Coordinates) → is_none (d a) ≡ true → Inside (set_axis d a (Some r)) p → Inside d p
rest_inside d a r p e h b = go (same_axis a b) refl (h b)
  where
    go : (s : Bool) → same_axis a b ≡ s → Holds (cond s (Some r) (d b)) (p b) → Holds (d b) (p b)
    go true q l = none_holds (d b) (p b) (subst (λ (c : Axis). is_none (d c) ≡ true) (axis_of_lem a b q) e)
    go false q l = l

-- every iterator in use stands within its range
abbrev pub Stand : Ranges → Places → Type 0
Stand g v = (w : Word) → Holds (g w) (v w)

pub bound : (is : List Iterator) (g : Ranges) (v : Places) (p : Coordinates) → own_axes is ≡ true → Inside (iterator_extents is) p → Stand g v → Stand (bind_ranges is g) (bind_places is p v)
bound [] g v p t h f w = f w
bound (i ∷ rest) g v p t h f w =
    go (bytes_eq i.word w) (bound rest g v p (and_right _ (own_axes rest) t) (rest_inside (iterator_extents rest) i.axis i.range p (and_left _ _ (and_left _ (own_axes rest) t)) h) f w)
  where
    here : (s : Bool) → s ≡ true → Holds (cond s (Some i.range) (iterator_extents rest i.axis)) (p i.axis) → Holds (Some i.range) (p i.axis)
    here true q l = l
    here false q l = absurd (clash q)

    go : (s : Bool) → Holds (bind_ranges rest g w) (bind_places rest p v w) → Holds (cond s (Some i.range) (bind_ranges rest g w)) (cond s (p i.axis) (bind_places rest p v w))
    go true l = here (same_axis i.axis i.axis) (eq-eqb _ _ refl) (h i.axis)
    go false l = l
