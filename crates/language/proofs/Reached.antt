-- The span over the four pairs is no wider than the results are: its ends are results themselves.
use Rattle.std.proofs.Common.{◌≡◌, ℤ, ◌≤ℤ◌, refl, subst, arith as linear}
use lib.Signed.{le_z}
use Rattle.std.specs.Int.{int_min, int_max}
use Rattle.std.proofs.lemmas.Int.{ints, clamps}
use Rattle.coverage.specs.declared.range.Range.{Range}
use Rattle.coverage.proofs.Bools.{by_test}
use Rattle.language.specs.Spans.{corners}
use Rattle.language.specs.Results.{Reached}

module _ (f : ℤ → ℤ → ℤ) (a b : Range) where
  min_reached : (v w : ℤ) → Reached f a b v → Reached f a b w → Reached f a b (int_min v w)
  min_reached v w x y =
      by_test (le_z v w)
      (λ h. let e : v ≡ int_min v w = omega (linear, ints, clamps) in subst (λ (u : ℤ). Reached f a b u) e x)
      (λ h. let e : w ≡ int_min v w = omega (linear, ints, clamps) in subst (λ (u : ℤ). Reached f a b u) e y)

  max_reached : (v w : ℤ) → Reached f a b v → Reached f a b w → Reached f a b (int_max v w)
  max_reached v w x y =
      by_test (le_z v w)
      (λ h. let e : w ≡ int_max v w = omega (linear, ints, clamps) in subst (λ (u : ℤ). Reached f a b u) e y)
      (λ h. let e : v ≡ int_max v w = omega (linear, ints, clamps) in subst (λ (u : ℤ). Reached f a b u) e x)

  module _ (p : a.lo ≤ℤ a.hi) (q : b.lo ≤ℤ b.hi) where
    low_low : Reached f a b (f a.lo b.lo)
    low_low = record { left = a.lo; right = b.lo; left_in = (omega (linear, ints), p); right_in = (omega (linear, ints), q); result = refl }

    low_high : Reached f a b (f a.lo b.hi)
    low_high = record { left = a.lo; right = b.hi; left_in = (omega (linear, ints), p); right_in = (q, omega (linear, ints)); result = refl }

    high_low : Reached f a b (f a.hi b.lo)
    high_low = record { left = a.hi; right = b.lo; left_in = (p, omega (linear, ints)); right_in = (omega (linear, ints), q); result = refl }

    high_high : Reached f a b (f a.hi b.hi)
    high_high = record { left = a.hi; right = b.hi; left_in = (p, omega (linear, ints)); right_in = (q, omega (linear, ints)); result = refl }

    pub lowest_reached : Reached f a b (corners f a b).lo
    unfolding corners
    lowest_reached = min_reached _ _ (min_reached _ _ low_low low_high) (min_reached _ _ high_low high_high)

    pub highest_reached : Reached f a b (corners f a b).hi
    unfolding corners
    highest_reached = max_reached _ _ (max_reached _ _ low_low low_high) (max_reached _ _ high_low high_high)
