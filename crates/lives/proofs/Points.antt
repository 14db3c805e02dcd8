-- The point of a cell's number is the point, as far as the domain can tell.
use Rattle.std.proofs.Common.{◌≡◌, ℕ, ◌/◌, Bool, true, false, cond, List, [], ◌∷◌, ℤ, Some, None, Option, sym, refl, ap, ◌∙◌}
use borrow.Author.Tests.{clash}
use Rattle.coverage.specs.declared.axis.Axis.{Axis}
use Rattle.coverage.specs.declared.range.Range.{Range}
use Rattle.coverage.specs.Axes.{Agree, AgreeAt, Coordinates, Extents, Inside, axes, coord_of, is_none, number_at, origin, point_at, point_over, same_axis, size_of}
use Rattle.coverage.proofs.Points.{axis_of_lem, member, present}
use Rattle.coverage.proofs.Numbers.{point_number}

some_coord : (r : Option Range) (n : ℕ) (v w : ℤ) → is_none r ≡ false → coord_of r n v ≡ coord_of r n w
some_coord None n v w h = absurd (clash (sym h))
some_coord (Some r) n v w h = refl

-- the coordinate on an axis that is there comes from the number alone
over_from : (list : List Axis) (d : Extents) (n : ℕ) (p q : Coordinates) (a : Axis) → member a list ≡ true → is_none (d a) ≡ false → point_over list d n p a ≡ point_over list d n q a
over_from [] d n p q a m h = absurd (clash m)
over_from (b ∷ rest) d n p q a m h = go (same_axis b a) refl m (over_from rest d (n / size_of (d b)) p q a)
  where
    go : (s : Bool) → same_axis b a ≡ s → cond s true (member a rest) ≡ true →
        (member a rest ≡ true → is_none (d a) ≡ false → point_over rest d (n / size_of (d b)) p a ≡ point_over rest d (n / size_of (d b)) q a) →
        cond s (coord_of (d b) n (p b)) (point_over rest d (n / size_of (d b)) p a) ≡ cond s (coord_of (d b) n (q b)) (point_over rest d (n / size_of (d b)) q a)
    go true e m i = some_coord (d b) n (p b) (q b) (ap (λ c. is_none (d c)) (axis_of_lem b a e) ∙ h)
    go false e m i = i m h

at_from : (d : Extents) (n : ℕ) (p q : Coordinates) (a : Axis) → is_none (d a) ≡ false → point_at d n p a ≡ point_at d n q a
unfolding point_at
at_from d n p q a h = over_from axes d n p q a (present a) h

agree_at : (r : Option Range) (v w : ℤ) → (is_none r ≡ false → v ≡ w) → AgreeAt r v w
agree_at None v w h = tt
agree_at (Some r) v w h = h refl

pub point_agrees : (d : Extents) (p : Coordinates) → Inside d p → Agree d p (point_at d (number_at d p) origin)
point_agrees d p inside a = agree_at (d a) (p a) (point_at d (number_at d p) origin a) (λ h. sym (point_number d p inside a) ∙ at_from d (number_at d p) p origin a h)
