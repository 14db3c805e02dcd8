-- Which kinds fit where: each rule expects numbers or truths.
use Rattle.std.specs.Prelude.{Bool, not, ◌&&◌, ◌||◌}
use Rattle.coverage.specs.declared.kind.Kind.{Kind}
use Rattle.coverage.specs.Kinds.{is_truth}
use Rattle.syntax.specs.declared.Unary.{Unary}
use Rattle.syntax.specs.declared.Unary.TheVariants.{Minus, Not, Abs}
use Rattle.syntax.specs.declared.Comparison.{Comparison}
use Rattle.syntax.specs.declared.Comparison.TheVariants.{Equal, Unequal, Less, AtMost, Greater, AtLeast}
use Rattle.syntax.specs.declared.Binary.{Binary}
use Rattle.syntax.specs.declared.Binary.TheVariants.{Numbers, Overlay, Compares, Truths}
use Rattle.syntax.specs.declared.Fold.{Fold}
use Rattle.syntax.specs.declared.Fold.TheVariants.{Sum, Least, Greatest, Every, Any}
use Rattle.syntax.specs.declared.Reduce.{Reduce}
use Rattle.syntax.specs.declared.Reduce.TheVariants.{Whole, Count}

-- what a rule may expect of an operand
pub data Expected : Type 0 where
  a_number : Expected
  a_truth : Expected

-- the one rule of kinds: a number where a number is expected, a truth where a truth is
abbrev pub fits_as : Expected → Kind → Bool
fits_as a_number k = not (is_truth k)
fits_as a_truth k = is_truth k

-- two operands of which the same is expected
abbrev pub both_fit_as : Expected → Kind → Kind → Bool
both_fit_as x j k = fits_as x j && fits_as x k

-- minus and `abs` take numbers, `not` a truth
abbrev pub unary_expects : Unary → Expected
unary_expects Minus = a_number
unary_expects Not = a_truth
unary_expects Abs = a_number

-- `= !=` take two numbers or two truths, the other comparisons numbers
abbrev pub alike_fit : Kind → Kind → Bool
alike_fit j k = both_fit_as a_number j k || both_fit_as a_truth j k

-- comparisons, each by its sign
abbrev pub comparison_fits : Comparison → Kind → Kind → Bool
comparison_fits Equal j k = alike_fit j k
comparison_fits Unequal j k = alike_fit j k
comparison_fits Less j k = both_fit_as a_number j k
comparison_fits AtMost j k = both_fit_as a_number j k
comparison_fits Greater j k = both_fit_as a_number j k
comparison_fits AtLeast j k = both_fit_as a_number j k

-- `+ - * /` and `overlay` take numbers, `and or xor` truths
abbrev pub operands_fit : Binary → Kind → Kind → Bool
operands_fit (Numbers o) j k = both_fit_as a_number j k
operands_fit Overlay j k = both_fit_as a_number j k
operands_fit (Compares c) j k = comparison_fits c j k
operands_fit (Truths l) j k = both_fit_as a_truth j k

-- `+ min max` take numbers, `and or` truths
abbrev pub fold_expects : Fold → Expected
fold_expects Sum = a_number
fold_expects Least = a_number
fold_expects Greatest = a_number
fold_expects Every = a_truth
fold_expects Any = a_truth

-- `add min max` take numbers, `count some all` truths
abbrev pub reduce_expects : Reduce → Expected
reduce_expects (Whole o) = fold_expects o
reduce_expects Count = a_truth
