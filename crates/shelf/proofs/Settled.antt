-- A point settled on a domain is the point, as far as the domain can tell.
use Rattle.std.proofs.Common.{◌≡◌, ℕ, ◌+◌, ◌*◌, ◌&&◌, ◌||◌, List, [], ◌∷◌, ℤ, Some, None, Option, refl, ap₂}
use Rattle.coverage.specs.declared.range.Range.{Range}
use Rattle.coverage.specs.declared.axis.Axis.{Axis}
use Rattle.coverage.specs.declared.axis.Axis.TheVariants.{X}
use Rattle.coverage.specs.Axes.{Extents, Coordinates, across, axes, inside_b, is_none, number_at, number_over, on_axis, same_z, size_of, step_of}
use Rattle.coverage.specs.Strips.{in_strip, strip_point}
use Rattle.coverage.proofs.Points.{all_same}
use Rattle.shelf.specs.Meaning.{settled, settled_on}

settled_on_lem : (r : Option Range) (v : ℤ) → on_axis r (settled_on r v) ≡ on_axis r v
settled_on_lem None v = refl
settled_on_lem (Some r) v = refl

settled_step : (r : Option Range) (v : ℤ) → step_of r (settled_on r v) ≡ step_of r v
settled_step None v = refl
settled_step (Some r) v = refl

settled_same : (r : Option Range) (v w : ℤ) → (is_none r || same_z (settled_on r v) w) ≡ (is_none r || same_z v w)
settled_same None v w = refl
settled_same (Some r) v w = refl

pub settled_inside : (d : Extents) (p : Coordinates) → inside_b d (settled d p) ≡ inside_b d p
settled_inside d p = all_same axes (λ a. on_axis (d a) (settled d p a)) (λ a. on_axis (d a) (p a)) (λ a _. settled_on_lem (d a) (p a))

over_settled : (list : List Axis) (d : Extents) (p : Coordinates) → number_over list d (settled d p) ≡ number_over list d p
over_settled [] d p = refl
over_settled (a ∷ rest) d p = ap₂ (λ i j. i * size_of (d a) + j) (over_settled rest d p) (settled_step (d a) (p a))

pub settled_number : (d : Extents) (p : Coordinates) → number_at d (settled d p) ≡ number_at d p
unfolding number_at
settled_number d p = over_settled axes d p

pub settled_in_strip : (d : Extents) (n : ℕ) (p : Coordinates) → in_strip d n (settled d p) ≡ in_strip d n p
settled_in_strip d n p =
    ap₂ (λ x y. x && y) (settled_on_lem (d X) (p X))
    (all_same across (λ a. is_none (d a) || same_z (settled d p a) (strip_point d n a)) (λ a. is_none (d a) || same_z (p a) (strip_point d n a)) (λ a _. settled_same (d a) (p a) (strip_point d n a)))
