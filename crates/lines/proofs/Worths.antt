-- What numerals are worth, digit after digit.
use Rattle.std.proofs.Common.{◌≡◌, ℕ, ◌+◌, ◌-◌, ◌*◌, ◌^◌, min, List, [], ◌∷◌, refl, ap, ◌∙◌, arith}
use Rattle.std.specs.List.{fold}
use Rattle.lines.specs.Numerals.{digit_onto, worth, told_count}

-- a step of a count that stays at the largest
abbrev pub told_onto : ℕ → ℕ → ℕ
told_onto n b = min (min (n * 10) (2 ^ 64 - 1) + (b - 48)) (2 ^ 64 - 1)

told_step : (n b : ℕ) → told_onto (told_count n) b ≡ told_count (digit_onto n b)
told_step n b = omega arith

told_from : (n : ℕ) (ds : List ℕ) → fold told_onto (told_count n) ds ≡ told_count (fold digit_onto n ds)
told_from n [] = refl
told_from n (d ∷ ds) = ap (λ (m : ℕ). fold told_onto m ds) (told_step n d) ∙ told_from (digit_onto n d) ds

pub told : (ds : List ℕ) → fold told_onto 0 ds ≡ told_count (worth ds)
told ds = told_from 0 ds
