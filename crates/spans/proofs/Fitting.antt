-- Results of values in bounds fit 64 bits.
use Rattle.std.proofs.Common.{suc, ◌≤◌, ℤ, pos, negsuc, unsigned_abs, div-le_self, arith, w64, SFits}
use Rattle.std.proofs.lemmas.Int.{ints}
use Rattle.language.specs.Operators.{quotient}
use Rattle.language.specs.Limits.{widest}

-- a quotient is no larger than its dividend
pub quotient_fits : (x y : ℤ) → unsigned_abs x ≤ widest → SFits w64 (quotient x y)
unfolding quotient
quotient_fits (pos a) (pos b) h = omega (arith, ints, div-le_self a b)
quotient_fits (pos a) (negsuc b) h = omega (arith, ints, div-le_self a (suc b))
quotient_fits (negsuc a) (pos b) h = omega (arith, ints, div-le_self (suc a) b)
quotient_fits (negsuc a) (negsuc b) h = omega (arith, ints, div-le_self (suc a) (suc b))
