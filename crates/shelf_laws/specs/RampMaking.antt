-- What the making of a ramp describes.
use Rattle.std.specs.Prelude.{◌≡◌, ℕ, false, List, ℤ, Some, None, Ok, Err, Option, Result}
use Rattle.coverage.specs.declared.description.Description.{Description}
use Rattle.coverage.specs.Axes.{Domain, extents}
use Rattle.shelf.specs.declared.fault.MakingFault.{MakingFault}
use Rattle.shelf_laws.specs.declared.ramp.Plane.{Plane}
use Rattle.shelf_laws.specs.Ramp.{Slopes, gradient, ramp_kind}
use Rattle.shelf_laws.specs.Single.{AskedFor}

-- the description, and the cells that are asked for, where a making is allowed, and else why it is refused
abbrev pub DescribedRamp : Option MakingFault → List ℕ → Domain → Slopes → ℤ → Result (Description × Plane) MakingFault → Type 0
DescribedRamp None name d s offset r =
    (a : Description) × (p : Plane) × (r ≡ Ok (a, p)) × AskedFor name d (ramp_kind (gradient s) offset (extents d)) false a × (p.slopes ≡ s) × (p.offset ≡ offset)
DescribedRamp (Some f) name d s offset r = r ≡ Err f
