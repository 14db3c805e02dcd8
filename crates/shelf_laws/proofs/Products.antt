-- Products of small numbers are small.
use Rattle.std.proofs.Common.{ℕ, suc, ◌≤◌, ℤ, pos, negsuc, ◌+ℤ◌, ◌*ℤ◌, ◌≤ℤ◌, arith, w32, w64, SFits}
use lib.Signed.{mag}
use Rattle.std.proofs.lemmas.Int.{ints}
use Rattle.std.proofs.lemmas.Nat.{mul-le}

-- a number within ±m
pub record Small (m : ℕ) (v : ℤ) : Type 0 where
  pub from : pos 0 ≤ℤ (v +ℤ pos m)
  pub to : v ≤ℤ pos m

-- a product of factors within ±100 and ±1,000,000
pub mul_small : (s v : ℤ) → Small 100 s → Small 1000000 v → Small 100000000 (s *ℤ v)
mul_small (pos s) (pos v) f g = let m = mul-le s v 100 1000000 (omega (arith, ints, f.to)) (omega (arith, ints, g.to)) in record { from = omega (arith, ints); to = omega (arith, ints) }
mul_small (pos s) (negsuc v) f g = let m = mul-le s (suc v) 100 1000000 (omega (arith, ints, f.to)) (omega (arith, ints, g.from)) in record { from = omega (arith, ints); to = omega (arith, ints) }
mul_small (negsuc s) (pos v) f g = let m = mul-le (suc s) v 100 1000000 (omega (arith, ints, f.from)) (omega (arith, ints, g.to)) in record { from = omega (arith, ints); to = omega (arith, ints) }
mul_small (negsuc s) (negsuc v) f g = let m = mul-le (suc s) (suc v) 100 1000000 (omega (arith, ints, f.from)) (omega (arith, ints, g.from)) in record { from = omega (arith, ints); to = omega (arith, ints) }

-- ---- small numbers fit their types

mag_small : (m : ℕ) (v : ℤ) → Small m v → mag v ≤ m
mag_small m (pos n) h = omega (arith, ints, h.to)
mag_small m (negsuc n) h = omega (arith, ints, h.from)

pub fits_64 : (m : ℕ) (v : ℤ) → m ≤ 2147483647 → Small m v → SFits w64 v
fits_64 m v h s = record { sfits = omega (arith, mag_small m v s) }

pub fits_32 : (m : ℕ) (v : ℤ) → m ≤ 2147483647 → Small m v → SFits w32 v
fits_32 m v h s = record { sfits = omega (arith, mag_small m v s) }
