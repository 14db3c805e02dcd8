-- The quotient rule: truncation is monotone in each argument where the divisor's span excludes 0.
-- Another rounding owes `quotient_left` and `quotient_right`, and nothing else changes.
use Rattle.std.proofs.Common.{◌≡◌, ℕ, zero, suc, ◌+◌, ◌*◌, ◌/◌, ◌<◌, ◌≤◌, ◌⊎◌, ℤ, pos, negsuc, ◌-ℤ◌, ◌*ℤ◌, neg_ℤ, nat_abs, ◌≤ℤ◌, ◌<ℤ◌, refl, arith}
use lib.Signed.{quot_z}
use Rattle.std.proofs.lemmas.Int.{ints, clamps}
use Rattle.std.proofs.lemmas.Nat.{mul-le, le-div, div-add-mod', mod_below}
use Rattle.language.specs.Operators.{quotient}
use Rattle.language.specs.Results.{Between}
use Rattle.coverage.proofs.Products.{rises, falls}

-- natural quotients rise with the dividend and fall with the divisor
div_up : (a b k : ℕ) → 0 < k → a ≤ b → a / k ≤ b / k
div_up a b k p h = le-div (a / k) b k p (omega (arith, div-add-mod' a k))

div_down : (a k l : ℕ) → 0 < k → k ≤ l → a / l ≤ a / k
div_down a k l p h = le-div (a / l) a k p (omega (arith, div-add-mod' a l, mul-le (a / l) k (a / l) l (omega arith) h))

quot_up : (a b : ℤ) (k : ℕ) → 0 < k → a ≤ℤ b → quot_z a (pos k) ≤ℤ quot_z b (pos k)
quot_up (pos a) (pos b) k p h = omega (arith, ints, div_up a b k p (omega (arith, ints)))
quot_up (pos a) (negsuc b) k p h = absurd (omega (arith, ints))
quot_up (negsuc a) (pos b) k p h = omega (arith, ints)
quot_up (negsuc a) (negsuc b) k p h = omega (arith, ints, div_up (suc b) (suc a) k p (omega (arith, ints)))

-- by a negative divisor the quotient is that by its opposite, negated
quot_neg : (a : ℤ) (k : ℕ) → quot_z a (negsuc k) ≡ neg_ℤ (quot_z a (pos (suc k)))
quot_neg (pos a) k = refl
quot_neg (negsuc a) k = omega (arith, ints)

neg_flips : (a b : ℤ) → a ≤ℤ b → neg_ℤ b ≤ℤ neg_ℤ a
neg_flips a b h = omega (arith, ints)

quot_down : (a b : ℤ) (k : ℕ) → a ≤ℤ b → quot_z b (negsuc k) ≤ℤ quot_z a (negsuc k)
quot_down a b k h = rw (quot_neg a k, quot_neg b k) (neg_flips _ _ (quot_up a b (suc k) (omega arith) h))

quot_left : (a b x y : ℤ) → (y ≡ pos 0 → ⊥) → a ≤ℤ x → x ≤ℤ b → Between (quot_z a y) (quot_z b y) (quot_z x y)
quot_left a b x (pos n) z h k = let p : 0 < n = omega (arith, ints) in rises _ _ _ (quot_up a x n p h) (quot_up x b n p k)
quot_left a b x (negsuc n) z h k = falls _ _ _ (quot_down a x n h) (quot_down x b n k)

-- over positive divisors in order
quot_pos : (x : ℤ) (c y d : ℕ) → 0 < c → c ≤ y → y ≤ d → Between (quot_z x (pos c)) (quot_z x (pos d)) (quot_z x (pos y))
quot_pos (pos a) c y d p h k = falls _ _ _ (omega (arith, ints, div_down a c y p h)) (omega (arith, ints, div_down a y d (omega arith) k))
quot_pos (negsuc a) c y d p h k = rises _ _ _ (omega (arith, ints, div_down (suc a) c y p h)) (omega (arith, ints, div_down (suc a) y d (omega arith) k))

turned : (p q r : ℤ) → Between p q r → Between (neg_ℤ q) (neg_ℤ p) (neg_ℤ r)
turned p q r h = record { least = omega (arith, ints, clamps); most = omega (arith, ints, clamps) }

-- the divisor's span is above or below 0
quot_right : (c d x y : ℤ) → (pos 0 <ℤ c) ⊎ (d <ℤ pos 0) → c ≤ℤ y → y ≤ℤ d → Between (quot_z x c) (quot_z x d) (quot_z x y)
quot_right (pos c) (pos d) x (pos y) z h k = quot_pos x c y d (omega (arith, ints)) (omega (arith, ints)) (omega (arith, ints))
quot_right (pos c) (pos d) x (negsuc y) z h k = absurd (omega (arith, ints))
quot_right (pos c) (negsuc d) x (pos y) z h k = absurd (omega (arith, ints))
quot_right (pos c) (negsuc d) x (negsuc y) z h k = absurd (omega (arith, ints))
quot_right (negsuc c) (pos d) x (pos y) z h k = absurd (omega (arith, ints))
quot_right (negsuc c) (pos d) x (negsuc y) z h k = absurd (omega (arith, ints))
quot_right (negsuc c) (negsuc d) x (pos y) z h k = absurd (omega (arith, ints))
quot_right (negsuc c) (negsuc d) x (negsuc y) z h k =
    rw (quot_neg x c, quot_neg x d, quot_neg x y) (turned _ _ _ (quot_pos x (suc d) (suc y) (suc c) (omega arith) (omega (arith, ints)) (omega (arith, ints))))

pub quotient_left : (a b x y : ℤ) → (y ≡ pos 0 → ⊥) → a ≤ℤ x → x ≤ℤ b → Between (quotient a y) (quotient b y) (quotient x y)
unfolding quotient
quotient_left a b x y z h k = quot_left a b x y z h k

pub quotient_right : (c d x y : ℤ) → (pos 0 <ℤ c) ⊎ (d <ℤ pos 0) → c ≤ℤ y → y ≤ℤ d → Between (quotient x c) (quotient x d) (quotient x y)
unfolding quotient
quotient_right c d x y z h k = quot_right c d x y z h k

-- ---- what is dropped

-- over natural numbers, n is k times its quotient and a rest below k
dropped : (n k : ℕ) → 0 < k → ((n / k) * k ≤ n) × (n < (n / k) * k + k)
dropped n k p = let e = div-add-mod' n k in let m = mod_below n k p in (omega arith, omega arith)

neg_mul : (q b : ℕ) → neg_ℤ (pos q) *ℤ negsuc b ≡ pos (q * suc b)
neg_mul zero b = omega (arith, ints)
neg_mul (suc q) b = omega (arith, ints)

neg_mul_pos : (q b : ℕ) → neg_ℤ (pos q) *ℤ pos b ≡ neg_ℤ (pos (q * b))
neg_mul_pos zero b = omega (arith, ints)
neg_mul_pos (suc q) b = omega (arith, ints)

pub drops_less : (x y : ℤ) → (y ≡ pos 0 → ⊥) → nat_abs (x -ℤ (quotient x y *ℤ y)) < nat_abs y
unfolding quotient
drops_less (pos a) (pos b) z = let p : 0 < b = omega (arith, ints) in let d = dropped a b p in omega (arith, ints)
drops_less (pos a) (negsuc b) z = let d = dropped a (suc b) (omega arith) in rw (neg_mul (a / suc b) b) (omega (arith, ints))
drops_less (negsuc a) (pos b) z = let p : 0 < b = omega (arith, ints) in let d = dropped (suc a) b p in rw (neg_mul_pos (suc a / b) b) (omega (arith, ints))
drops_less (negsuc a) (negsuc b) z = let d = dropped (suc a) (suc b) (omega arith) in omega (arith, ints)

pub drops_toward_zero : (x y : ℤ) → (y ≡ pos 0 → ⊥) → nat_abs (quotient x y *ℤ y) ≤ nat_abs x
unfolding quotient
drops_toward_zero (pos a) (pos b) z = let p : 0 < b = omega (arith, ints) in let d = dropped a b p in omega (arith, ints)
drops_toward_zero (pos a) (negsuc b) z = let d = dropped a (suc b) (omega arith) in rw (neg_mul (a / suc b) b) (omega (arith, ints))
drops_toward_zero (negsuc a) (pos b) z = let p : 0 < b = omega (arith, ints) in let d = dropped (suc a) b p in rw (neg_mul_pos (suc a / b) b) (omega (arith, ints))
drops_toward_zero (negsuc a) (negsuc b) z = let d = dropped (suc a) (suc b) (omega arith) in omega (arith, ints)
