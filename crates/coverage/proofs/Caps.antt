-- Products counted up to a cap: a factor that was cut off at the cap does not change the capped product.
use Rattle.std.proofs.Common.{◌≡◌, ℕ, zero, suc, ◌*◌, ◌≤◌, min, leb, sym, ap, ◌∙◌, mul_assoc, mul_comm, mul-zero, mul-one, arith, leb-false, leb-true}
use native.Mathlib.Nat.{min-eq_left, min-eq_right}
use Rattle.std.proofs.lemmas.Nat.{mul-le}
use Rattle.coverage.proofs.Bools.{by_test}

pub cap_left : (k a c : ℕ) → min (min a k * c) k ≡ min (a * c) k
cap_left k a zero = ap (λ n. min n k) (mul-zero (min a k) ∙ sym (mul-zero a))
cap_left k a (suc c) =
    by_test (leb a k)
    (λ e. let h : a ≤ k = leb-true a k e in ap (λ n. min (n * suc c) k) (min-eq_left h))
    (λ e.
    let h : k ≤ a = omega (arith, leb-false a k e) in
    let p : k ≤ k * suc c = omega (arith, mul-le k 1 k (suc c) (omega arith) (omega arith), mul-one k) in
    let q : k ≤ a * suc c = omega (arith, mul-le k 1 a (suc c) h (omega arith), mul-one k) in
    ap (λ n. min (n * suc c) k) (min-eq_right h) ∙ (min-eq_right p ∙ sym (min-eq_right q)))

pub cap_turn : (k a b c : ℕ) → min (min (a * min b k) k * c) k ≡ min (a * (b * c)) k
cap_turn k a b c =
    let e : a * min b k * c ≡ min b k * (a * c) = ap (λ n. n * c) (mul_comm a (min b k)) ∙ mul_assoc (min b k) a c in
    let f : b * (a * c) ≡ a * (b * c) = sym (mul_assoc b a c) ∙ (ap (λ n. n * c) (mul_comm b a) ∙ mul_assoc a b c) in
    cap_left k (a * min b k) c ∙ (ap (λ n. min n k) e ∙ (cap_left k b (a * c) ∙ ap (λ n. min n k) f))
