-- Points in domains.
use Rattle.std.proofs.Common.{◌≡◌, ℕ, ◌/◌, ◌%◌, ◌<◌, Bool, true, false, cond, ◌&&◌, List, [], ◌∷◌, get_or, ℤ, pos, negsuc, ◌+ℤ◌, ◌-ℤ◌, ◌≤ℤ◌, Some, None, Option, sym, refl, ap, ◌∙◌, subst, ap₂, arith, eq-eqb, eqb-true}
use mathlib.Core.Path.{fun_ext}
use lib.Signed.{le_z}
use borrow.Author.Tests.{clash}
use Rattle.std.proofs.lemmas.Int.{ints}
use Rattle.std.proofs.lemmas.Nat.{mod_below}
use Rattle.coverage.specs.declared.range.Range.{Range}
use Rattle.coverage.specs.declared.axis.Axis.{Axis}
use Rattle.coverage.specs.declared.axis.Axis.TheVariants.{X, Y, T}
use Rattle.coverage.specs.Axes.{rank, axes, same_axis, Extents, Coordinates, coordinates, origin, set_axis, put, above, width, size_of, is_none, same_range, all_over, no_axes, inside_b, on_axis, Holds, Inside, Ordered, coord_of, point_over, point_at}
use Rattle.coverage.proofs.Bools.{and_left, and_right, and_both}

abbrev pub member : Axis → List Axis → Bool
member a [] = false
member a (b ∷ rest) = cond (same_axis b a) true (member a rest)

-- the two places that go through the axes, beside `rank` and `axes`: one line for each axis
pub present : (a : Axis) → member a axes ≡ true
present X = refl
present Y = refl
present T = refl

nth_rank : (a : Axis) → get_or axes (rank a) X ≡ a
nth_rank X = refl
nth_rank Y = refl
nth_rank T = refl

pub axis_of_lem : (a b : Axis) → same_axis a b ≡ true → a ≡ b
axis_of_lem a b h = sym (nth_rank a) ∙ (ap (λ (n : ℕ). get_or axes n X) (eqb-true (rank a) (rank b) h) ∙ nth_rank b)

pub each_over : (list : List Axis) (f : Axis → Bool) → all_over f list ≡ true → (a : Axis) → member a list ≡ true → f a ≡ true
each_over [] f h a m = absurd (clash m)
each_over (b ∷ rest) f h a m = go (same_axis b a) refl m (each_over rest f (and_right (f b) _ h) a)
  where
    go : (s : Bool) → same_axis b a ≡ s → cond s true (member a rest) ≡ true → (member a rest ≡ true → f a ≡ true) → f a ≡ true
    go true q m i = subst (λ (c : Axis). f c ≡ true) (axis_of_lem b a q) (and_left (f b) _ h)
    go false q m i = i m

pub each : (f : Axis → Bool) → all_over f axes ≡ true → (a : Axis) → f a ≡ true
each f h a = each_over axes f h a (present a)

pub none_holds : (r : Option Range) (v : ℤ) → is_none r ≡ true → Holds r v
none_holds None v h = tt
none_holds (Some r) v h = absurd (clash h)

pub none_inside : (d : Extents) (p : Coordinates) → no_axes d ≡ true → Inside d p
none_inside d p h a = none_holds (d a) (p a) (each (λ b. is_none (d b)) h a)

pub same_holds : (q r : Option Range) (v : ℤ) → same_range q r ≡ true → Holds q v → Holds r v
same_holds None None v h k = tt
same_holds None (Some r) v h k = absurd (clash h)
same_holds (Some q) None v h k = tt
same_holds (Some q) (Some r) v h k =
    let a = and_left (le_z q.lo r.lo && le_z r.lo q.lo) _ h in
    let b = and_right (le_z q.lo r.lo && le_z r.lo q.lo) _ h in
    let c = and_right (le_z q.lo r.lo) _ a in
    let d = and_left (le_z q.hi r.hi) _ b in
    (omega (arith, ints), omega (arith, ints))

pub put_inside : (d : Extents) (p : Coordinates) (a : Axis) (v : ℤ) → Inside (set_axis d a None) p → Holds (d a) v → Inside d (put p a v)
put_inside d p a v h k b = go (same_axis a b) refl (h b)
  where
    go : (s : Bool) → same_axis a b ≡ s → Holds (cond s None (d b)) (p b) → Holds (d b) (cond s v (p b))
    go true q l = subst (λ (c : Axis). Holds (d c) v) (axis_of_lem a b q) k
    go false q l = l

pub above_one : (a b : ℤ) → a ≤ℤ b → pos (above ((b -ℤ a) +ℤ pos 1)) ≡ (b -ℤ a) +ℤ pos 1
above_one a b h = go ((b -ℤ a) +ℤ pos 1) (omega (arith, ints))
  where
    go : (z : ℤ) → pos 0 ≤ℤ z → pos (above z) ≡ z
    go (pos n) k = refl
    go (negsuc n) k = absurd (omega (arith, ints))

coord_holds : (r : Option Range) (n : ℕ) (v : ℤ) → Ordered r → Holds r (coord_of r n v)
coord_holds None n v h = tt
coord_holds (Some r) n v h =
    let e = above_one r.lo r.hi h in
    let k : n % width r < width r = mod_below n (width r) (omega (arith, ints)) in
    (omega (arith, ints), omega (arith, ints))

pub point_over_inside : (list : List Axis) (d : Extents) (n : ℕ) (p : Coordinates) → ((a : Axis) → Ordered (d a)) → (a : Axis) → member a list ≡ true → Holds (d a) (point_over list d n p a)
point_over_inside [] d n p g a m = absurd (clash m)
point_over_inside (b ∷ rest) d n p g a m = go (same_axis b a) refl m (point_over_inside rest d (n / size_of (d b)) p g a)
  where
    go : (s : Bool) → same_axis b a ≡ s → cond s true (member a rest) ≡ true → (member a rest ≡ true → Holds (d a) (point_over rest d (n / size_of (d b)) p a)) →
        Holds (d a) (cond s (coord_of (d b) n (p b)) (point_over rest d (n / size_of (d b)) p a))
    go true q m i = subst (λ (c : Axis). Holds (d c) (coord_of (d b) n (p b))) (axis_of_lem b a q) (coord_holds (d b) n (p b) (g b))
    go false q m i = i m

-- cell number n of a domain lies in it
pub point_inside : (d : Extents) (n : ℕ) (p : Coordinates) → ((a : Axis) → Ordered (d a)) → Inside d (point_at d n p)
unfolding point_at
point_inside d n p h a = point_over_inside axes d n p h a (present a)

-- ---- inside, as a test and as a fact

pub on_holds : (r : Option Range) (v : ℤ) → on_axis r v ≡ true → Holds r v
on_holds None v h = tt
on_holds (Some r) v h =
    let a = and_left (le_z r.lo v) _ h in
    let b = and_right (le_z r.lo v) _ h in
    (omega (arith, ints), omega (arith, ints))

pub inside_from : (d : Extents) (p : Coordinates) → inside_b d p ≡ true → Inside d p
inside_from d p h a = on_holds (d a) (p a) (each (λ b. on_axis (d b) (p b)) h a)

pub holds_on : (r : Option Range) (v : ℤ) → Holds r v → on_axis r v ≡ true
holds_on None v h = refl
holds_on (Some r) v h =
    let a : le_z r.lo v ≡ true = grind (arith, ints) in
    let b : le_z v r.hi ≡ true = grind (arith, ints) in
    and_both _ _ a b

pub all_over_lem : (list : List Axis) (f : Axis → Bool) → ((a : Axis) → f a ≡ true) → all_over f list ≡ true
all_over_lem [] f h = refl
all_over_lem (a ∷ rest) f h = and_both (f a) _ (h a) (all_over_lem rest f h)

same_self : (a : Axis) → same_axis a a ≡ true
same_self a = eq-eqb _ _ refl

cond_true : (s b : Bool) → b ≡ true → cond s true b ≡ true
cond_true true b h = refl
cond_true false b h = h

pub member_here : (a : Axis) (rest : List Axis) → member a (a ∷ rest) ≡ true
member_here a rest = ap (λ s. cond s true (member a rest)) (same_self a)

pub member_later : (a b : Axis) (rest : List Axis) → member a rest ≡ true → member a (b ∷ rest) ≡ true
member_later a b rest m = cond_true (same_axis b a) (member a rest) m

-- a test that holds on each axis of a list holds of the list
pub all_members : (list : List Axis) (f : Axis → Bool) → ((a : Axis) → member a list ≡ true → f a ≡ true) → all_over f list ≡ true
all_members [] f h = refl
all_members (b ∷ rest) f h = and_both (f b) _ (h b (member_here b rest)) (all_members rest f (λ a m. h a (member_later a b rest m)))

-- tests that agree on each axis of a list agree on the list
pub all_same : (list : List Axis) (f g : Axis → Bool) → ((a : Axis) → member a list ≡ true → f a ≡ g a) → all_over f list ≡ all_over g list
all_same [] f g h = refl
all_same (b ∷ rest) f g h = ap₂ (λ x y. x && y) (h b (member_here b rest)) (all_same rest f g (λ a m. h a (member_later a b rest m)))

pub inside_test : (d : Extents) (p : Coordinates) → Inside d p → inside_b d p ≡ true
inside_test d p h = all_over_lem axes (λ a. on_axis (d a) (p a)) (λ a. holds_on (d a) (p a) (h a))

-- the point of coordinates 0, as a value and as a function
pub origin_is : coordinates (record { x = pos 0; y = pos 0; t = pos 0 }) ≡ origin
origin_is = fun_ext at
  where
    at : (a : Axis) → coordinates (record { x = pos 0; y = pos 0; t = pos 0 }) a ≡ origin a
    at X = refl
    at Y = refl
    at T = refl
