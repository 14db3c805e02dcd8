-- The results of `+ - * /`: how far they reach, and what a quotient is.
pub use Rattle.coverage.specs.Between.{Between}
use Rattle.std.specs.Prelude.{◌≡◌, ◌<◌, ◌≤◌, false, ◌&&◌, ◌⊎◌, ℤ, pos, ◌-ℤ◌, ◌*ℤ◌, ◌≤ℤ◌, ◌<ℤ◌, ◌≢◌, unsigned_abs}
use Rattle.coverage.specs.declared.range.Range.{Range}
use Rattle.syntax.specs.declared.Arithmetic.{Arithmetic}
use Rattle.syntax.specs.declared.Binary.TheVariants.{Numbers}
use Rattle.language.specs.Operators.{arithmetic, quotient}
use Rattle.language.specs.Spans.{corners, holds_zero}
use Rattle.language.specs.Faults.{is_division}

-- a value lies in a span
abbrev pub In : Range → ℤ → Type 0
In r x = (r.lo ≤ℤ x) × (x ≤ℤ r.hi)

-- v is the result for some values of the two spans
pub record Reached (f : ℤ → ℤ → ℤ) (a b : Range) (v : ℤ) : Type 0 where
  pub left : ℤ
  pub right : ℤ
  pub left_in : In a left
  pub right_in : In b right
  pub result : f left right ≡ v

-- the four pairs of span ends bound every result, and no narrower span does; for division the divisor's span excludes 0.
-- Truncation is monotone in each argument.
pub record FourPairsBoundEveryResult : Type 0 where
  pub bounded : (o : Arithmetic) (a b : Range) (x y : ℤ) → (is_division (Numbers o) && holds_zero b) ≡ false → In a x → In b y → In (corners (arithmetic o) a b) (arithmetic o x y)
  pub lowest_reached : (o : Arithmetic) (a b : Range) → a.lo ≤ℤ a.hi → b.lo ≤ℤ b.hi → Reached (arithmetic o) a b (corners (arithmetic o) a b).lo
  pub highest_reached : (o : Arithmetic) (a b : Range) → a.lo ≤ℤ a.hi → b.lo ≤ℤ b.hi → Reached (arithmetic o) a b (corners (arithmetic o) a b).hi
  pub by_dividend : (a b x y : ℤ) → (y ≢ pos 0) → a ≤ℤ x → x ≤ℤ b → Between (quotient a y) (quotient b y) (quotient x y)
  pub by_divisor : (c d x y : ℤ) → (pos 0 <ℤ c) ⊎ (d <ℤ pos 0) → c ≤ℤ y → y ≤ℤ d → Between (quotient x c) (quotient x d) (quotient x y)

-- what dropping the fraction means: what is dropped is less than one divisor, and lies on the dividend's side of 0
pub record QuotientsDropTheFraction : Type 0 where
  pub less_than_one : (x y : ℤ) → (y ≢ pos 0) → unsigned_abs (x -ℤ (quotient x y *ℤ y)) < unsigned_abs y
  pub toward_zero : (x y : ℤ) → (y ≢ pos 0) → unsigned_abs (quotient x y *ℤ y) ≤ unsigned_abs x
