-- Where strips stand, and which points they hold.
use Rattle.std.proofs.Common.{◌≡◌, ℕ, ◌+◌, ◌*◌, ◌/◌, ◌%◌, ◌<◌, Bool, true, false, cond, ◌||◌, List, [], ◌∷◌, ℤ, pos, ◌+ℤ◌, ◌-ℤ◌, Some, None, Option, sym, refl, ap, ◌∙◌, subst, ap₂, add-zero, mod-eq_of_lt, mul_comm, mul-one, arith}
use borrow.Author.Tests.{clash}
use lib.Signed.{le_z}
use Rattle.std.proofs.lemmas.Nat.{div_below}
use Rattle.std.proofs.lemmas.Int.{ints}
use Rattle.coverage.specs.declared.range.Range.{Range}
use Rattle.coverage.specs.declared.axis.Axis.{Axis}
use Rattle.coverage.specs.declared.axis.Axis.TheVariants.{X, Y, T}
use Rattle.coverage.specs.Axes.{Extents, Coordinates, Holds, Inside, Ordered, Sized, above, across, all_over, coord_of, is_none, lowest_on, number_at, number_over, on_axis, origin, point_over, same_axis, same_z, set_axis, size_of, step_of}
use Rattle.coverage.specs.Strips.{Raised, Stands, in_strip, row_width, strip_at, strip_first, strip_point, strips}
use Rattle.coverage.proofs.Bools.{and_left, and_right, and_both}
use Rattle.coverage.proofs.Points.{all_members, axis_of_lem, each_over, holds_on, member, on_holds, point_over_inside, present, put_inside}
use Rattle.coverage.proofs.Numbers.{number_over_lem, point_over_lem, put_other}

raised_rest : (r : Option Range) (n : ℕ) → Raised r (n % size_of r) (coord_of r n (pos 0))
raised_rest None n = refl
raised_rest (Some r) n = refl

raised_all : (r : Option Range) (n : ℕ) → n < size_of r → Raised r n (coord_of r n (pos 0))
raised_all None n h = refl
raised_all (Some r) n h = ap (λ k. r.lo +ℤ pos k) (mod-eq_of_lt h)

-- the recursion over the axes across says what the rule says
pub strip_stands : (d : Extents) (n : ℕ) → Sized d → n < strips d → Stands d n (strip_point d n)
unfolding strip_point
strip_stands d n sized h =
    let few : n < size_of (d T) * size_of (d Y) = omega (arith, mul-one (size_of (d T)), mul_comm (size_of (d T)) (size_of (d Y)), ap (λ m. size_of (d Y) * m) (mul-one (size_of (d T)))) in
    record {
      in_y = raised_rest (d Y) n;
      in_t = raised_all (d T) (n / size_of (d Y)) (div_below n (size_of (d Y)) (size_of (d T)) (sized Y).0 few);
    }

raised_as : (r : Option Range) (k : ℕ) (v w : ℤ) → v ≡ w → Raised r k w → Raised r k v
raised_as None k v w e h = e ∙ h
raised_as (Some r) k v w e h = e ∙ h

-- a point with the same coordinates stands there too
pub stands_as : (d : Extents) (n : ℕ) (p q : Coordinates) → p Y ≡ q Y → p T ≡ q T → Stands d n q → Stands d n p
stands_as d n p q e f h = record { in_y = raised_as (d Y) _ (p Y) (q Y) e h.in_y; in_t = raised_as (d T) _ (p T) (q T) f h.in_t }

-- ---- points in strips

pub same_z_true : (a b : ℤ) → same_z a b ≡ true → a ≡ b
same_z_true a b e =
    let l = and_left (le_z a b) (le_z b a) e in
    let g = and_right (le_z a b) (le_z b a) e in
    omega (arith, ints)

pub same_z_same : (a b : ℤ) → a ≡ b → same_z a b ≡ true
same_z_same a b e = grind (arith, ints)

-- two points that are alike on the axes that are there
abbrev pub alike : Extents → Coordinates → Coordinates → Axis → Bool
alike d p q a = is_none (d a) || same_z (p a) (q a)

alike_step : (r : Option Range) (v w : ℤ) → (is_none r || same_z v w) ≡ true → step_of r v ≡ step_of r w
alike_step None v w h = refl
alike_step (Some r) v w h = ap (λ z. above (z -ℤ r.lo)) (same_z_true v w h)

-- they have the same number
pub alike_number : (list : List Axis) (d : Extents) (p q : Coordinates) → all_over (alike d p q) list ≡ true → number_over list d p ≡ number_over list d q
alike_number [] d p q h = refl
alike_number (a ∷ rest) d p q h =
    ap₂ (λ i j. i * size_of (d a) + j) (alike_number rest d p q (and_right (alike d p q a) _ h)) (alike_step (d a) (p a) (q a) (and_left (alike d p q a) _ h))

alike_holds : (r : Option Range) (v w : ℤ) → (is_none r || same_z v w) ≡ true → Holds r w → Holds r v
alike_holds None v w h k = tt
alike_holds (Some r) v w h k = let e = same_z_true v w h in (omega (arith, ints), omega (arith, ints))

some_coord : (r : Option Range) (n : ℕ) (v w : ℤ) → is_none r ≡ false → coord_of r n v ≡ coord_of r n w
some_coord None n v w h = absurd (clash (sym h))
some_coord (Some r) n v w h = refl

-- the coordinate on an axis of the list that is there comes from the number alone
over_from : (list : List Axis) (d : Extents) (n : ℕ) (p q : Coordinates) (a : Axis) → member a list ≡ true → is_none (d a) ≡ false → point_over list d n p a ≡ point_over list d n q a
over_from [] d n p q a m h = absurd (clash m)
over_from (b ∷ rest) d n p q a m h = go (same_axis b a) refl m (over_from rest d (n / size_of (d b)) p q a)
  where
    go : (s : Bool) → same_axis b a ≡ s → cond s true (member a rest) ≡ true →
        (member a rest ≡ true → is_none (d a) ≡ false → point_over rest d (n / size_of (d b)) p a ≡ point_over rest d (n / size_of (d b)) q a) →
        cond s (coord_of (d b) n (p b)) (point_over rest d (n / size_of (d b)) p a) ≡ cond s (coord_of (d b) n (q b)) (point_over rest d (n / size_of (d b)) q a)
    go true e m i = some_coord (d b) n (p b) (q b) (ap (λ c. is_none (d c)) (axis_of_lem b a e) ∙ h)
    go false e m i = i m h

-- the lowest x is on the axis, and the first
pub first_x : (r : Option Range) → Ordered r → (Holds r (lowest_on r)) × (step_of r (lowest_on r) ≡ 0)
first_x None h = (tt, refl)
first_x (Some r) h = ((omega (arith, ints), h), ap above (let e : r.lo -ℤ r.lo ≡ pos 0 = omega (arith, ints) in e))

module _ (d : Extents) (good : (a : Axis) → Ordered (d a)) where
  -- the strip that stands where strip n stands is strip n
  pub strip_at_point : (n : ℕ) → n < strips d → strip_at d (strip_point d n) ≡ n
  unfolding strip_point strip_at
  strip_at_point n h = number_over_lem across refl d n origin good h

  -- where a strip stands is inside, x left aside
  pub strip_inside : (n : ℕ) → Inside (set_axis d X None) (strip_point d n)
  unfolding strip_point
  strip_inside n b = go (same_axis X b) refl (present b)
    where
      go : (s : Bool) → same_axis X b ≡ s → cond s true (member b across) ≡ true → Holds (cond s None (d b)) (point_over across d n origin b)
      go true e m = tt
      go false e m = point_over_inside across d n origin good b m

  -- a point in strip n is inside, and the strip through it is strip n
  pub in_strip_holds : (n : ℕ) (p : Coordinates) → n < strips d → in_strip d n p ≡ true → (Inside d p) × (strip_at d p ≡ n)
  unfolding strip_at
  in_strip_holds n p h e =
      let on = and_left (on_axis (d X) (p X)) _ e in
      let al = and_right (on_axis (d X) (p X)) _ e in
      let inside : Inside d p = λ b. go b (same_axis X b) refl (present b) (strip_inside n b) on al in
      (inside, alike_number across d p (strip_point d n) al ∙ strip_at_point n h)
    where
      go : (b : Axis) (s : Bool) → same_axis X b ≡ s → cond s true (member b across) ≡ true → Holds (cond s None (d b)) (strip_point d n b) →
          on_axis (d X) (p X) ≡ true → all_over (alike d p (strip_point d n)) across ≡ true → Holds (d b) (p b)
      go b true e m k on al = subst (λ (c : Axis). Holds (d c) (p c)) (axis_of_lem X b e) (on_holds (d X) (p X) on)
      go b false e m k on al = alike_holds (d b) (p b) (strip_point d n b) (each_over across (alike d p (strip_point d n)) al b m) k

  -- a point inside lies in the strip through it
  pub in_own_strip : (p : Coordinates) → Inside d p → in_strip d (strip_at d p) p ≡ true
  unfolding strip_at strip_point
  in_own_strip p inside =
      and_both (on_axis (d X) (p X)) _ (holds_on (d X) (p X) (inside X))
      (all_members across (alike d p (strip_point d (strip_at d p))) (λ b m. go b m (is_none (d b)) refl (point_over_lem across d p inside b)))
    where
      go : (b : Axis) → member b across ≡ true → (s : Bool) → is_none (d b) ≡ s → point_over across d (number_over across d p) p b ≡ p b → (s || same_z (p b) (point_over across d (number_over across d p) origin b)) ≡ true
      go b m true e k = refl
      go b m false e k = same_z_same _ _ (sym k ∙ over_from across d (number_over across d p) p origin b m e)

  -- the first point of a strip: inside, and with the strip's number times the width for its own
  pub strip_first_holds : (n : ℕ) → n < strips d → (Inside d (strip_first d n)) × (number_at d (strip_first d n) ≡ n * row_width d)
  unfolding number_at strip_at
  strip_first_holds n h =
      let f = first_x (d X) (good X) in
      let v = lowest_on (d X) in
      let same = put_other across d (strip_point d n) X v refl in
      (put_inside d (strip_point d n) X v (strip_inside n) f.0, ap₂ (λ i j. i * row_width d + j) (same ∙ strip_at_point n h) f.1 ∙ add-zero (n * row_width d))

  -- the strip through it is strip n
  pub first_strip : (n : ℕ) → n < strips d → strip_at d (strip_first d n) ≡ n
  unfolding strip_at
  first_strip n h = put_other across d (strip_point d n) X (lowest_on (d X)) refl ∙ strip_at_point n h

-- the number of a cell by its strip
pub number_by_strip : (d : Extents) (p : Coordinates) → number_at d p ≡ strip_at d p * row_width d + step_of (d X) (p X)
unfolding number_at strip_at
number_by_strip d p = refl
