-- How many looks at cells a run takes: every one by a `$` name counts, repeats included.
use Rattle.std.specs.Prelude.{ℕ, zero, suc, ◌+◌, cond, ℤ, Some, None, Option}
use Rattle.coverage.specs.Axes.{Coordinates, put, cells, point_at}
use Rattle.syntax.specs.Tree.{Expr, at, numeral, truth, name, iterator, unary, binary, reduce, trim, slice, condense, condense_where, form}
use Rattle.language.specs.Operators.{is_true}
use Rattle.language.specs.Iterators.{Places, iterator_extents, bind_places}
use Rattle.language.specs.Typing.{Described, domain_of}
use Rattle.language.specs.Values.{Looks, value_at}

-- at a null position the operand is unread
abbrev pub reads_from : Option ℤ → (ℤ → ℕ) → ℕ
reads_from None f = 0
reads_from (Some i) f = f i

-- where a `where` is false or null its point's body is unread
abbrev pub reads_where : Option ℤ → ℕ → ℕ
reads_where None n = 0
reads_where (Some w) n = cond (is_true w) n 0

-- over the first n
abbrev pub sum_of : (ℕ → ℕ) → ℕ → ℕ
sum_of f zero = 0
sum_of f (suc n) = sum_of f n + f n

module _ (about : Described) (look : Looks) where
  -- both operands are read, and every cell or point of a function or condense form
  abbrev pub reads_at : Places → Expr → Coordinates → ℕ
  reads_at v (at place e) p = reads_at v e p
  reads_at v (numeral n) p = 0
  reads_at v (truth b) p = 0
  reads_at v (name w) p = 1
  reads_at v (iterator w) p = 0
  reads_at v (unary o e) p = reads_at v e p
  reads_at v (binary o d e) p = reads_at v d p + reads_at v e p
  reads_at v (reduce r e) p = sum_of (λ n. reads_at v e (point_at (domain_of about e) n p)) (cells (domain_of about e))
  reads_at v (trim twice a r e) p = reads_at v e p
  reads_at v (slice twice a e q) p = reads_from (value_at about look v q p) (λ i. reads_at v e (put p a i)) + reads_at v q p
  reads_at v (condense o is e) p = sum_of (λ n. reads_at (bind_places is (point_at (iterator_extents is) n p) v) e p) (cells (iterator_extents is))
  reads_at v (condense_where o is w e) p =
      sum_of
      (λ n. reads_at (bind_places is (point_at (iterator_extents is) n p) v) w p +
      reads_where (value_at about look (bind_places is (point_at (iterator_extents is) n p) v) w p) (reads_at (bind_places is (point_at (iterator_extents is) n p) v) e p))
      (cells (iterator_extents is))
  reads_at v (form is e) p = reads_at (bind_places is p v) e p
