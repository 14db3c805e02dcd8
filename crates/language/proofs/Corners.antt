-- Results over the four pairs of span ends.
use Rattle.std.proofs.Common.{ℤ, ◌+ℤ◌, ◌-ℤ◌, ◌≤ℤ◌, arith}
use Rattle.std.proofs.lemmas.Int.{ints, clamps}
use Rattle.language.specs.Spans.{lowest, highest}
use Rattle.coverage.specs.Between.{Between}
use Rattle.coverage.proofs.Products.{rises, falls}

-- between in each argument: within the four corners
pub four : (f : ℤ → ℤ → ℤ) (a b c d x y : ℤ) → Between (f a y) (f b y) (f x y) → Between (f a c) (f a d) (f a y) → Between (f b c) (f b d) (f b y) →
    (lowest (f a c) (f a d) (f b c) (f b d) ≤ℤ f x y) × (f x y ≤ℤ highest (f a c) (f a d) (f b c) (f b d))
four f a b c d x y h k l = (least _ _ _ _ _ _ _ h k l, most _ _ _ _ _ _ _ h k l)
  where
    least : (p q r s u v w : ℤ) → Between u v w → Between p q u → Between r s v → lowest p q r s ≤ℤ w
    least p q r s u v w h k l = omega (arith, ints, clamps)

    most : (p q r s u v w : ℤ) → Between u v w → Between p q u → Between r s v → w ≤ℤ highest p q r s
    most p q r s u v w h k l = omega (arith, ints, clamps)

pub add_left : (a b x y : ℤ) → a ≤ℤ x → x ≤ℤ b → Between (a +ℤ y) (b +ℤ y) (x +ℤ y)
add_left a b x y h k = rises _ _ _ (omega (arith, ints)) (omega (arith, ints))

pub add_right : (c d x y : ℤ) → c ≤ℤ y → y ≤ℤ d → Between (x +ℤ c) (x +ℤ d) (x +ℤ y)
add_right c d x y h k = rises _ _ _ (omega (arith, ints)) (omega (arith, ints))

pub sub_left : (a b x y : ℤ) → a ≤ℤ x → x ≤ℤ b → Between (a -ℤ y) (b -ℤ y) (x -ℤ y)
sub_left a b x y h k = rises _ _ _ (omega (arith, ints)) (omega (arith, ints))

pub sub_right : (c d x y : ℤ) → c ≤ℤ y → y ≤ℤ d → Between (x -ℤ c) (x -ℤ d) (x -ℤ y)
sub_right c d x y h k = falls _ _ _ (omega (arith, ints)) (omega (arith, ints))
