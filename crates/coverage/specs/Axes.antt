-- Axes, domains and points: every rule is one recursion over the list of axes.
use Rattle.std.specs.Prelude.{◌≡◌, ℕ, ◌+◌, ◌*◌, ◌/◌, ◌%◌, ◌<◌, ◌≤◌, Bool, true, false, not, ◌&&◌, List, [], ◌∷◌, ℤ, pos, negsuc, ◌+ℤ◌, ◌-ℤ◌, ◌≤ℤ◌, Some, None, Option, int_le}
use Rattle.std.specs.List.{list_all}
use Rattle.coverage.specs.declared.range.Range.{Range}
use Rattle.coverage.specs.declared.axis.Axis.{Axis}
use Rattle.coverage.specs.declared.axis.Axis.TheVariants.{X, Y, T}
use Rattle.coverage.specs.declared.per_axis.PerAxis.{PerAxis}
pub use Rattle.coverage.specs.Entries.{changed, entry, rank, same_axis}

-- ---- axes

-- the axes across a row, innermost first: a row lies along x, and strip numbers run over these.
-- A further axis is an entry here, a field of PerAxis, and a clause of `rank` and of `entry`.
abbrev pub across : List Axis
across = Y ∷ T ∷ []

-- all axes, innermost first
abbrev pub axes : List Axis
axes = X ∷ across

-- ---- domains and points, by what they give each axis

-- a domain gives each axis a range, or none where the axis is absent
abbrev pub Extents : Type 0
Extents = Axis → Option Range

-- a point gives each axis a coordinate
abbrev pub Coordinates : Type 0
Coordinates = Axis → ℤ

abbrev pub Domain : Type 0
Domain = PerAxis (Option Range)

abbrev pub Point : Type 0
Point = PerAxis ℤ

abbrev pub extents : Domain → Extents
extents d = entry d

abbrev pub coordinates : Point → Coordinates
coordinates p = entry p

-- the point with coordinate 0 on every axis
abbrev pub origin : Coordinates
origin a = pos 0

-- the domain of a single value
abbrev pub no_extents : Extents
no_extents a = None

abbrev pub set_axis : Extents → Axis → Option Range → Extents
set_axis d a r = changed d a r

-- a point moved along one axis
abbrev pub put : Coordinates → Axis → ℤ → Coordinates
put p a v = changed p a v

-- ---- one axis

-- an integer that is not below 0, as a natural number; 0 for those below
abbrev pub above : ℤ → ℕ
above (pos n) = n
above (negsuc n) = 0

abbrev pub same_z : ℤ → ℤ → Bool
same_z a b = int_le a b && int_le b a

-- how many coordinates a range has: none where its lowest is above its highest
abbrev pub width : Range → ℕ
width r = above ((r.hi -ℤ r.lo) +ℤ pos 1)

-- how many places an axis has: one where it is absent
abbrev pub size_of : Option Range → ℕ
size_of None = 1
size_of (Some r) = width r

abbrev pub is_none : Option Range → Bool
is_none None = true
is_none (Some r) = false

abbrev pub same_range : Option Range → Option Range → Bool
same_range None None = true
same_range None (Some r) = false
same_range (Some q) None = false
same_range (Some q) (Some r) = same_z q.lo r.lo && same_z q.hi r.hi

abbrev pub in_range : Range → ℤ → Bool
in_range r v = int_le r.lo v && int_le v r.hi

-- an absent axis takes every coordinate
abbrev pub on_axis : Option Range → ℤ → Bool
on_axis None v = true
on_axis (Some r) v = in_range r v

-- the lowest coordinate of an axis, 0 where it is absent
abbrev pub lowest_on : Option Range → ℤ
lowest_on None = pos 0
lowest_on (Some r) = r.lo

-- the highest coordinate of an axis, 0 where it is absent
abbrev pub highest_on : Option Range → ℤ
highest_on None = pos 0
highest_on (Some r) = r.hi

-- how far a coordinate stands from the lowest of its axis
abbrev pub step_of : Option Range → ℤ → ℕ
step_of None v = 0
step_of (Some r) v = above (v -ℤ r.lo)

-- the coordinate n places up an axis, going round; an absent axis keeps the coordinate v
abbrev pub coord_of : Option Range → ℕ → ℤ → ℤ
coord_of None n v = v
coord_of (Some r) n v = r.lo +ℤ pos (n % width r)

-- ---- a list of axes

abbrev pub all_over : (Axis → Bool) → List Axis → Bool
all_over f xs = list_all f xs

-- no axis stands twice
abbrev pub distinct : List Axis → Bool
distinct [] = true
distinct (a ∷ rest) = all_over (λ b. not (same_axis a b)) rest && distinct rest

abbrev pub cells_over : List Axis → Extents → ℕ
cells_over [] d = 1
cells_over (a ∷ rest) d = size_of (d a) * cells_over rest d

-- the number of the cell at a point: the first axis innermost
abbrev pub number_over : List Axis → Extents → Coordinates → ℕ
number_over [] d p = 0
number_over (a ∷ rest) d p = number_over rest d p * size_of (d a) + step_of (d a) (p a)

-- and back: the point of cell n; absent axes keep their coordinate in p
abbrev pub point_over : List Axis → Extents → ℕ → Coordinates → Coordinates
point_over [] d n p = p
point_over (a ∷ rest) d n p = put (point_over rest d (n / size_of (d a)) p) a (coord_of (d a) n (p a))

-- ---- a domain

-- how many cells: a value without axes is one
abbrev pub cells : Extents → ℕ
cells d = cells_over axes d

abbrev pub no_axes : Extents → Bool
no_axes d = all_over (λ a. is_none (d a)) axes

-- the same axes with the same ends
abbrev pub same_domain : Extents → Extents → Bool
same_domain d e = all_over (λ a. same_range (d a) (e a)) axes

abbrev pub inside_b : Extents → Coordinates → Bool
inside_b d p = all_over (λ a. on_axis (d a) (p a)) axes

unfoldable pub number_at : Extents → Coordinates → ℕ
number_at d p = number_over axes d p

unfoldable pub point_at : Extents → ℕ → Coordinates → Coordinates
point_at d n p = point_over axes d n p

-- the same as facts, one for each axis

-- the point lies in the domain
abbrev pub Holds : Option Range → ℤ → Type 0
Holds None v = Unit {0}
Holds (Some r) v = (r.lo ≤ℤ v) × (v ≤ℤ r.hi)

abbrev pub Inside : Extents → Coordinates → Type 0
Inside d p = (a : Axis) → Holds (d a) (p a)

-- two points are alike on the axes of a domain
abbrev pub AgreeAt : Option Range → ℤ → ℤ → Type 0
AgreeAt None x y = Unit {0}
AgreeAt (Some r) x y = x ≡ y

abbrev pub Agree : Extents → Coordinates → Coordinates → Type 0
Agree d p q = (a : Axis) → AgreeAt (d a) (p a) (q a)

-- a range has its ends in order
abbrev pub Ordered : Option Range → Type 0
Ordered None = Unit {0}
Ordered (Some r) = r.lo ≤ℤ r.hi

-- each axis has a place at least, and no more than a coverage may have cells
abbrev pub Sized : Extents → Type 0
Sized d = (a : Axis) → (0 < size_of (d a)) × (size_of (d a) ≤ 65536)
