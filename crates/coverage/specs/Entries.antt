-- What stands for each axis.
use Rattle.std.specs.Prelude.{ℕ, Bool, cond, ◌==◌}
use Rattle.coverage.specs.declared.axis.Axis.{Axis}
use Rattle.coverage.specs.declared.axis.Axis.TheVariants.{X, Y, T}
use Rattle.coverage.specs.declared.per_axis.PerAxis.{PerAxis}

-- the number of an axis, by which axes are told apart
abbrev pub rank : Axis → ℕ
rank X = 0
rank Y = 1
rank T = 2

abbrev pub same_axis : Axis → Axis → Bool
same_axis a b = rank a == rank b

-- the value for an axis
abbrev pub entry : {V : Type 0} → PerAxis V → Axis → V
entry e X = e.x
entry e Y = e.y
entry e T = e.t

-- the same with another value for one axis
abbrev pub changed : {V : Type 0} → (Axis → V) → Axis → V → Axis → V
changed e a v b = cond (same_axis a b) v (e b)
