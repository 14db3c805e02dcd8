-- Strips: a strip is a row along x; its number says where it stands on the axes across.
use Rattle.std.specs.Prelude.{◌≡◌, ℕ, ◌/◌, ◌%◌, Bool, ◌&&◌, ◌||◌, ℤ, pos, ◌+ℤ◌, Some, None, Option}
use Rattle.coverage.specs.declared.range.Range.{Range}
use Rattle.coverage.specs.declared.axis.Axis.TheVariants.{X, Y, T}
use Rattle.coverage.specs.Axes.{Extents, Coordinates, origin, across, all_over, is_none, same_z, size_of, on_axis, cells_over, lowest_on, number_over, point_over, put}

-- how many cells a strip has
abbrev pub row_width : Extents → ℕ
row_width d = size_of (d X)

-- how many strips a domain has
abbrev pub strips : Extents → ℕ
strips d = cells_over across d

-- where strip n stands: numbers run over y first, then over t; an absent axis has coordinate 0
unfoldable pub strip_point : Extents → ℕ → Coordinates
strip_point d n = point_over across d n origin

-- the first point of strip n: where it stands, with the lowest x
abbrev pub strip_first : Extents → ℕ → Coordinates
strip_first d n = put (strip_point d n) X (lowest_on (d X))

-- the number of the strip through a point
unfoldable pub strip_at : Extents → Coordinates → ℕ
strip_at d p = number_over across d p

-- whether a point lies in strip n: anywhere along x, and across where the strip stands
abbrev pub in_strip : Extents → ℕ → Coordinates → Bool
in_strip d n p = on_axis (d X) (p X) && all_over (λ a. is_none (d a) || same_z (p a) (strip_point d n a)) across

-- a coordinate k places above the lowest of its axis
abbrev pub Raised : Option Range → ℕ → ℤ → Type 0
Raised None k v = v ≡ pos 0
Raised (Some r) k v = v ≡ r.lo +ℤ pos k

-- the rule as it is told: with H rows in y, strip n stands at y = lowest y + n mod H and t = lowest t + n div H
pub record Stands (d : Extents) (n : ℕ) (p : Coordinates) : Type 0 where
  pub in_y : Raised (d Y) (n % size_of (d Y)) (p Y)
  pub in_t : Raised (d T) (n / size_of (d Y)) (p T)
