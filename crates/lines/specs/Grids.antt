-- The parts that a grid line may have.
use Rattle.std.specs.Prelude.{Bool, true, false}
use Rattle.lines.specs.declared.grids.Axes.{Axes}
use Rattle.lines.specs.declared.grids.Axes.TheVariants.{X, Xy, Xt, Xyt}
use Rattle.lines.specs.declared.grids.Sort.{Sort}
use Rattle.lines.specs.declared.grids.Sort.TheVariants.{Numbers, Truths}

abbrev pub has_y : Axes → Bool
has_y X = false
has_y Xy = true
has_y Xt = false
has_y Xyt = true

abbrev pub has_t : Axes → Bool
has_t X = false
has_t Xy = false
has_t Xt = true
has_t Xyt = true

abbrev pub is_truth : Sort → Bool
is_truth Numbers = false
is_truth Truths = true
