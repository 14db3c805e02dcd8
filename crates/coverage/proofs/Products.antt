-- Products of signed numbers lie between those of the ends.
use Rattle.std.proofs.Common.{ℕ, suc, ◌≤◌, ℤ, pos, negsuc, ◌*ℤ◌, ◌≤ℤ◌, arith}
use lib.IntN.{*ℤ_comm}
use Rattle.std.proofs.lemmas.Int.{ints, clamps}
use Rattle.std.proofs.lemmas.Nat.{mul-le}
use Rattle.coverage.specs.Between.{Between}

pub rises : (p q r : ℤ) → p ≤ℤ r → r ≤ℤ q → Between p q r
rises p q r h k = record { least = omega (arith, ints, clamps); most = omega (arith, ints, clamps) }

pub falls : (p q r : ℤ) → r ≤ℤ p → q ≤ℤ r → Between p q r
falls p q r h k = record { least = omega (arith, ints, clamps); most = omega (arith, ints, clamps) }

pub mul_up : (a b : ℤ) (n : ℕ) → a ≤ℤ b → (a *ℤ pos n) ≤ℤ (b *ℤ pos n)
mul_up (pos a) (pos b) n h = let k : a ≤ b = omega (arith, ints) in omega (arith, ints, mul-le a n b n k (omega arith))
mul_up (pos a) (negsuc b) n h = absurd (omega (arith, ints))
mul_up (negsuc a) (pos b) n h = omega (arith, ints)
mul_up (negsuc a) (negsuc b) n h = let k : suc b ≤ suc a = omega (arith, ints) in omega (arith, ints, mul-le (suc b) n (suc a) n k (omega arith))

mul_down : (a b : ℤ) (n : ℕ) → a ≤ℤ b → (b *ℤ negsuc n) ≤ℤ (a *ℤ negsuc n)
mul_down (pos a) (pos b) n h = let k : a ≤ b = omega (arith, ints) in omega (arith, ints, mul-le a (suc n) b (suc n) k (omega arith))
mul_down (pos a) (negsuc b) n h = absurd (omega (arith, ints))
mul_down (negsuc a) (pos b) n h = omega (arith, ints)
mul_down (negsuc a) (negsuc b) n h = let k : suc b ≤ suc a = omega (arith, ints) in omega (arith, ints, mul-le (suc b) (suc n) (suc a) (suc n) k (omega arith))

pub mul_left : (a b x y : ℤ) → a ≤ℤ x → x ≤ℤ b → Between (a *ℤ y) (b *ℤ y) (x *ℤ y)
mul_left a b x (pos n) h k = rises _ _ _ (mul_up a x n h) (mul_up x b n k)
mul_left a b x (negsuc n) h k = falls _ _ _ (mul_down a x n h) (mul_down x b n k)

pub mul_right : (c d x y : ℤ) → c ≤ℤ y → y ≤ℤ d → Between (x *ℤ c) (x *ℤ d) (x *ℤ y)
mul_right c d x y h k = rw (*ℤ_comm x c, *ℤ_comm x d, *ℤ_comm x y) (mul_left c d y x h k)
