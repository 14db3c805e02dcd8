-- What operators give of values. None of them sees null: that is told in Values.
use Rattle.std.specs.Prelude.{Bool, true, false, cond, not, ◌&&◌, ◌||◌, ℤ, pos, ◌+ℤ◌, ◌-ℤ◌, ◌*ℤ◌, neg_ℤ, int_div, int_le, int_lt, unsigned_abs}
use Rattle.coverage.specs.Axes.{same_z}
use Rattle.syntax.specs.declared.Unary.{Unary}
use Rattle.syntax.specs.declared.Unary.TheVariants.{Minus, Not, Abs}
use Rattle.syntax.specs.declared.Arithmetic.{Arithmetic}
use Rattle.syntax.specs.declared.Arithmetic.TheVariants.{Plus, Subtract, Multiply, Divide}
use Rattle.syntax.specs.declared.Comparison.{Comparison}
use Rattle.syntax.specs.declared.Comparison.TheVariants.{Equal, Unequal, Less, AtMost, Greater, AtLeast}
use Rattle.syntax.specs.declared.Logic.{Logic}
use Rattle.syntax.specs.declared.Logic.TheVariants.{And, Or, Xor}
use Rattle.syntax.specs.declared.Binary.{Binary}
use Rattle.syntax.specs.declared.Binary.TheVariants.{Numbers, Overlay, Compares, Truths}

-- a truth stands as 0 or 1
abbrev pub bit : Bool → ℤ
bit true = pos 1
bit false = pos 0

-- false, or the number 0
abbrev pub is_zero : ℤ → Bool
is_zero v = same_z v (pos 0)

-- true: any value but 0
abbrev pub is_true : ℤ → Bool
is_true v = not (is_zero v)

-- division drops the fraction, toward zero
unfoldable pub quotient : ℤ → ℤ → ℤ
quotient x y = int_div x y

-- `+ - * /`
abbrev pub arithmetic : Arithmetic → ℤ → ℤ → ℤ
arithmetic Plus x y = x +ℤ y
arithmetic Subtract x y = x -ℤ y
arithmetic Multiply x y = x *ℤ y
arithmetic Divide x y = quotient x y

-- the second operand where the first is 0, else the first
abbrev pub overlaid : ℤ → ℤ → ℤ
overlaid x y = cond (is_zero x) y x

-- `= != < <= > >=`
abbrev pub compares : Comparison → ℤ → ℤ → Bool
compares Equal x y = same_z x y
compares Unequal x y = not (same_z x y)
compares Less x y = int_lt x y
compares AtMost x y = int_le x y
compares Greater x y = int_lt y x
compares AtLeast x y = int_le y x

-- `and or xor`
abbrev pub connects : Logic → Bool → Bool → Bool
connects And x y = x && y
connects Or x y = x || y
connects Xor x y = cond x (not y) y

-- prefixes and `abs`: the opposite, the other truth, the magnitude
abbrev pub unary_value : Unary → ℤ → ℤ
unary_value Minus x = neg_ℤ x
unary_value Not x = bit (is_zero x)
unary_value Abs x = pos (unsigned_abs x)

-- every operator between two operands
abbrev pub binary_value : Binary → ℤ → ℤ → ℤ
binary_value (Numbers o) x y = arithmetic o x y
binary_value Overlay x y = overlaid x y
binary_value (Compares c) x y = bit (compares c x y)
binary_value (Truths l) x y = bit (connects l (is_true x) (is_true y))
