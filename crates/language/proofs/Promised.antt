-- The looks at cells are at most the promise.
use Rattle.std.proofs.Common.{ℕ, zero, suc, ◌+◌, ◌*◌, ◌≤◌, Bool, true, false, cond, ℤ, Some, None, Option, arith}
use Rattle.coverage.specs.Axes.{Coordinates, cells, point_at, put}
use Rattle.syntax.specs.Tree.{Expr, at, numeral, truth, name, iterator, unary, binary, reduce, trim, slice, condense, condense_where, form}
use Rattle.language.specs.Operators.{is_true}
use Rattle.language.specs.Iterators.{Places, iterator_extents, bind_places}
use Rattle.language.specs.Typing.{Described, domain_of, promise_of}
use Rattle.language.specs.Values.{Looks, value_at}
use Rattle.language.specs.Reads.{reads_from, reads_where, sum_of, reads_at}

pub sum_of_le : (f : ℕ → ℕ) (k : ℕ) → ((i : ℕ) → f i ≤ k) → (n : ℕ) → sum_of f n ≤ n * k
sum_of_le f k p zero = omega arith
sum_of_le f k p (suc n) = let h = sum_of_le f k p n in let q = p n in grind arith

cond_le : (b : Bool) (n : ℕ) → cond b n 0 ≤ n
cond_le true n = omega arith
cond_le false n = omega arith

where_le : (x : Option ℤ) (n : ℕ) → reads_where x n ≤ n
where_le None n = omega arith
where_le (Some v) n = cond_le (is_true v) n

from_le : (x : Option ℤ) (f : ℤ → ℕ) (k : ℕ) → ((i : ℤ) → f i ≤ k) → reads_from x f ≤ k
from_le None f k h = omega arith
from_le (Some i) f k h = h i

sum_le : (a b c d e : ℕ) → a ≤ c → b ≤ e → e ≤ d → a + b ≤ c + d
sum_le a b c d e h k l = omega arith

module _ (about : Described) (look : Looks) where
  pub promised : (v : Places) (e : Expr) (p : Coordinates) → reads_at about look v e p ≤ promise_of about e
  promised v (at n e) p = promised v e p
  promised v (numeral n) p = omega arith
  promised v (truth b) p = omega arith
  promised v (name n) p = omega arith
  promised v (iterator w) p = omega arith
  promised v (unary o a) p = promised v a p
  promised v (binary o a b) p = sum_le _ _ _ _ _ (promised v a p) (promised v b p) (omega arith)
  promised v (reduce r a) p = sum_of_le (λ n. reads_at about look v a (point_at (domain_of about a) n p)) (promise_of about a) (λ n. promised v a (point_at (domain_of about a) n p)) (cells (domain_of about a))
  promised v (trim t a r e) p = promised v e p
  promised v (slice t a e q) p =
      let h = from_le (value_at about look v q p) (λ i. reads_at about look v e (put p a i)) (promise_of about e) (λ i. promised v e (put p a i)) in
      let k = promised v q p in
      sum_le _ _ _ _ (promise_of about q) h k (omega arith)
  promised v (condense o is e) p =
      let u : ℕ → Places = λ n. bind_places is (point_at (iterator_extents is) n p) v in
      sum_of_le (λ n. reads_at about look (u n) e p) (promise_of about e) (λ n. promised (u n) e p) (cells (iterator_extents is))
  promised v (condense_where o is w e) p =
      let u : ℕ → Places = λ n. bind_places is (point_at (iterator_extents is) n p) v in
      sum_of_le (λ n. reads_at about look (u n) w p + reads_where (value_at about look (u n) w p) (reads_at about look (u n) e p)) (promise_of about w + promise_of about e)
      (λ n. sum_le _ _ _ _ (reads_at about look (u n) e p) (promised (u n) w p) (where_le (value_at about look (u n) w p) (reads_at about look (u n) e p)) (promised (u n) e p)) (cells (iterator_extents is))
  promised v (form is e) p = promised (bind_places is p v) e p
