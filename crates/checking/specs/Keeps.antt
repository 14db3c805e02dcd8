-- What a rule accepts of operands within the limits is itself within them.
use Rattle.std.specs.Prelude.{◌≡◌, ℕ, ◌≤◌, Bool, true, List, Some, Ok, Err, Option, Result}
use Rattle.coverage.specs.declared.axis.Axis.{Axis}
use Rattle.coverage.specs.declared.range.Range.{Range}
use Rattle.coverage.specs.declared.description.Description.{Description}
use Rattle.coverage.specs.declared.refusal.Refusal.{Refusal}
use Rattle.coverage.specs.Axes.{Extents, Ordered, cells}
use Rattle.coverage.specs.Limits.{describable}
use Rattle.syntax.specs.declared.Unary.{Unary}
use Rattle.syntax.specs.declared.Binary.{Binary}
use Rattle.syntax.specs.declared.Fold.{Fold}
use Rattle.syntax.specs.declared.Reduce.{Reduce}
use Rattle.syntax.specs.Tree.{Iterator}
use Rattle.language.specs.Iterators.{Ranges}
use Rattle.language.specs.Limits.{RangeInBounds, most_cells, widest}
use Rattle.language.specs.Queries.{Announced}
use Rattle.checking.specs.Rules.{numeral_rule, truth_rule, name_rule, iterator_rule, unary_rule, binary_rule, reduce_rule, trim_rule, slice_rule, condense_rule, condense_where_rule, form_rule, query_rule}
use Rattle.checking.specs.Told.{Limited, about_of}
use Rattle.checking.specs.Trees.{iterators_rule}

-- where a rule accepts, what it accepts is within the limits
abbrev pub Kept : Result Announced Refusal → Type 0
Kept (Ok p) = Limited p
Kept (Err r) = Unit {0}

-- a domain that may be gone through: the ends of its ranges in order, and not too many cells
pub record Passable (d : Extents) : Type 0 where
  pub ordered : (a : Axis) → Ordered (d a)
  pub few : cells d ≤ most_cells

-- where iterators are accepted, their domain may be gone through
abbrev pub Through : Result Extents Refusal → Type 0
Through (Ok d) = Passable d
Through (Err r) = Unit {0}

pub record RulesKeepTheLimits : Type 0 where
  pub numerals : (n : ℕ) → n ≤ widest → Kept (numeral_rule n)
  pub truths : Kept truth_rule
  pub names : (a : Description) (place : ℕ) → describable a ≡ true → Kept (name_rule (Some (about_of a)) place)
  pub words : (r : Option Range) (place : ℕ) → RangeInBounds r → Kept (iterator_rule r place)
  pub prefixes : (o : Unary) (p : Announced) (place : ℕ) → Limited p → Kept (unary_rule o p place)
  pub pairs : (o : Binary) (p q : Announced) (place : ℕ) → Limited p → Limited q → Kept (binary_rule o p q place)
  pub functions : (r : Reduce) (p : Announced) (place : ℕ) → Limited p → Kept (reduce_rule r p place)
  pub trims : (twice : Bool) (a : Axis) (r : Range) (p : Announced) (place : ℕ) → Limited p → Kept (trim_rule twice a r p place)
  pub slices : (twice : Bool) (a : Axis) (p q : Announced) (place : ℕ) → Limited p → Kept (slice_rule twice a p q place)
  pub iterators : (g : Ranges) (is : List Iterator) (place : ℕ) → Through (iterators_rule g is place)
  pub condenses : (o : Fold) (n : ℕ) (p : Announced) (place : ℕ) → Limited p → Kept (condense_rule o n p place)
  pub wheres : (o : Fold) (n : ℕ) (w p : Announced) (place : ℕ) → Limited p → Kept (condense_where_rule o n w p place)
  pub forms : (d : Extents) (p : Announced) (place : ℕ) → Passable d → Limited p → Kept (form_rule d p place)
  pub queries : (p : Announced) → Limited p → Kept (query_rule p)
