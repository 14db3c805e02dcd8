-- A number between two others.
use Rattle.std.specs.Prelude.{ℤ, ◌≤ℤ◌}
use Rattle.std.specs.Int.{int_min, int_max}

-- r lies between p and q, whichever is the lower
pub record Between (p q r : ℤ) : Type 0 where
  pub least : int_min p q ≤ℤ r
  pub most : r ≤ℤ int_max p q
