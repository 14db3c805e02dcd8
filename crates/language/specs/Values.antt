-- What the run gives: the value of one cell, or null.
use Rattle.std.specs.Prelude.{ℕ, zero, suc, cond, ℤ, pos, ◌+ℤ◌, Some, None, Option}
use Rattle.std.specs.Int.{int_min, int_max}
use Rattle.coverage.specs.Axes.{Coordinates, put, cells, point_at}
use Rattle.syntax.specs.declared.Fold.{Fold}
use Rattle.syntax.specs.declared.Fold.TheVariants.{Sum, Least, Greatest, Every, Any}
use Rattle.syntax.specs.declared.Reduce.{Reduce}
use Rattle.syntax.specs.declared.Reduce.TheVariants.{Whole, Count}
use Rattle.syntax.specs.Tree.{Word, Expr, at, numeral, truth, name, iterator, unary, binary, reduce, trim, slice, condense, condense_where, form}
use Rattle.language.specs.Operators.{bit, is_true, unary_value, binary_value}
use Rattle.language.specs.Iterators.{Places, iterator_extents, bind_places}
use Rattle.language.specs.Typing.{Described, domain_of}

-- what a look at a cell answers, for each word that stands for a coverage: null or the cell's value
abbrev pub Looks : Type 0
Looks = Word → Coordinates → Option ℤ

-- ---- null in operands

-- null in the operand gives null
abbrev pub of_one : (ℤ → ℤ) → Option ℤ → Option ℤ
of_one f None = None
of_one f (Some x) = Some (f x)

-- null in any operand gives null
abbrev pub of_both : (ℤ → ℤ → ℤ) → Option ℤ → Option ℤ → Option ℤ
of_both f None y = None
of_both f (Some x) None = None
of_both f (Some x) (Some y) = Some (f x y)

-- a null position gives null
abbrev pub at_position : Option ℤ → (ℤ → Option ℤ) → Option ℤ
at_position None f = None
at_position (Some i) f = f i

-- ---- many values made one

-- what one cell or point gives, and also what several have given so far: null, nothing, or a value
pub data Pick : Type 0 where
  null : Pick
  nothing : Pick
  value : ℤ → Pick

-- a cell or point that is not left out
abbrev pub picked : Option ℤ → Pick
picked None = null
picked (Some v) = value v

-- a null `where` gives null; where it is false the point gives nothing, whatever its body
abbrev pub picked_where : Option ℤ → Option ℤ → Pick
picked_where None body = null
picked_where (Some w) body = cond (is_true w) (picked body) nothing

-- `and` of truths is the least of 0 and 1, `or` the greatest
abbrev pub combine : Fold → ℤ → ℤ → ℤ
combine Sum x y = x +ℤ y
combine Least x y = int_min x y
combine Greatest x y = int_max x y
combine Every x y = int_min x y
combine Any x y = int_max x y

-- one null makes all null; what gives nothing is skipped
abbrev pub join : Fold → Pick → Pick → Pick
join o null y = null
join o nothing y = y
join o (value a) null = null
join o (value a) nothing = value a
join o (value a) (value b) = value (combine o a b)

-- over the first n
abbrev pub gather : Fold → (ℕ → Pick) → ℕ → Pick
gather o f zero = nothing
gather o f (suc n) = join o (gather o f n) (f n)

-- nothing picked gives 0, null, null, true or false
abbrev pub of_nothing : Fold → Option ℤ
of_nothing Sum = Some (pos 0)
of_nothing Least = None
of_nothing Greatest = None
of_nothing Every = Some (pos 1)
of_nothing Any = Some (pos 0)

-- what comes of all that has been gathered
abbrev pub outcome : Fold → Pick → Option ℤ
outcome o null = None
outcome o nothing = of_nothing o
outcome o (value v) = Some v

-- a function over cells works as the condense operator that it names; `count` adds up truths
abbrev pub fold_of : Reduce → Fold
fold_of (Whole o) = o
fold_of Count = Sum

-- ---- a cell

module _ (about : Described) (look : Looks) where
  -- the value at a point, with the iterators where they stand
  abbrev pub value_at : Places → Expr → Coordinates → Option ℤ
  value_at v (at place e) p = value_at v e p
  value_at v (numeral n) p = Some (pos n)
  value_at v (truth b) p = Some (bit b)
  value_at v (name w) p = look w p
  value_at v (iterator w) p = Some (v w)
  value_at v (unary o e) p = of_one (unary_value o) (value_at v e p)
  value_at v (binary o d e) p = of_both (binary_value o) (value_at v d p) (value_at v e p)
  value_at v (reduce r e) p = outcome (fold_of r) (gather (fold_of r) (λ n. picked (value_at v e (point_at (domain_of about e) n p))) (cells (domain_of about e)))
  value_at v (trim twice a r e) p = value_at v e p
  value_at v (slice twice a e q) p = at_position (value_at v q p) (λ i. value_at v e (put p a i))
  value_at v (condense o is e) p =
      outcome o (gather o (λ n. picked (value_at (bind_places is (point_at (iterator_extents is) n p) v) e p)) (cells (iterator_extents is)))
  value_at v (condense_where o is w e) p =
      outcome o (gather o
      (λ n. picked_where (value_at (bind_places is (point_at (iterator_extents is) n p) v) w p) (value_at (bind_places is (point_at (iterator_extents is) n p) v) e p))
      (cells (iterator_extents is)))
  value_at v (form is e) p = value_at (bind_places is p v) e p
