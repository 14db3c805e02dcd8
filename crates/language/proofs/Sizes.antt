-- An accepted domain has at most the allowed number of cells.
use Rattle.std.proofs.Common.{◌≡◌, ℕ, ◌≤◌, Bool, true, false, cond, List, [], ◌∷◌, Some, None, Option, refl, subst, arith}
use lib.Signed.{le_z}
use borrow.Author.Tests.{clash}
use Rattle.std.proofs.lemmas.Int.{ints}
use Rattle.std.proofs.lemmas.Nat.{mul-le}
use Rattle.coverage.specs.declared.axis.Axis.{Axis}
use Rattle.coverage.specs.declared.range.Range.{Range}
use Rattle.coverage.specs.Axes.{axes, same_axis, Extents, set_axis, size_of, width, no_axes, cells, cells_over, Ordered}
use Rattle.coverage.proofs.Bools.{and_left, and_right}
use Rattle.coverage.proofs.Points.{axis_of_lem, above_one}
use Rattle.syntax.specs.Tree.{Word, Expr, at, numeral, truth, name, iterator, unary, binary, reduce, trim, slice, condense, condense_where, form}
use Rattle.language.specs.Iterators.{Ranges}
use Rattle.language.specs.Typing.{About, Described, named_extents, domain_of}
use Rattle.language.specs.Faults.{trim_inside, is_bound, fault_of}
use Rattle.language.specs.Limits.{most_cells, BoundedShelf}
use Rattle.language.proofs.Rules.{name_accepted, unary_accepted, binary_accepted, trim_accepted, slice_accepted, form_accepted}
use Rattle.language.proofs.Within.{domain_ordered}

-- no axis longer, no more cells
over_le : (list : List Axis) (d e : Extents) → ((a : Axis) → size_of (d a) ≤ size_of (e a)) → cells_over list d ≤ cells_over list e
over_le [] d e h = omega arith
over_le (a ∷ rest) d e h = mul-le (size_of (d a)) (cells_over rest d) (size_of (e a)) (cells_over rest e) (h a) (over_le rest d e h)

pub set_le : (d : Extents) (a : Axis) (r : Option Range) → size_of r ≤ size_of (d a) → cells (set_axis d a r) ≤ cells d
set_le d a r h = over_le axes (set_axis d a r) d each
  where
    each : (b : Axis) → size_of (set_axis d a r b) ≤ size_of (d b)
    each b = go (same_axis a b) refl
      where
        go : (s : Bool) → same_axis a b ≡ s → size_of (cond s r (d b)) ≤ size_of (d b)
        go true q = subst (λ (c : Axis). size_of r ≤ size_of (d c)) (axis_of_lem a b q) h
        go false q = omega arith

pub trim_le : (q : Option Range) (r : Range) → trim_inside q r ≡ true → width r ≤ size_of q
trim_le None r t = absurd (clash t)
trim_le (Some q) r t =
    let o = and_left (le_z r.lo r.hi) _ t in
    let a = and_right (le_z r.lo r.hi) _ t in
    let b = and_left (le_z q.lo r.lo) _ a in
    let c = and_right (le_z q.lo r.lo) _ a in
    let m = above_one r.lo r.hi (omega (arith, ints)) in
    let n = above_one q.lo q.hi (omega (arith, ints)) in
    omega (arith, ints)

pub one_le : (q : Option Range) → Ordered q → 1 ≤ size_of q
one_le None h = omega arith
one_le (Some q) h = let n = above_one q.lo q.hi h in omega (arith, ints)

-- a domain with its ends in order has a cell
pub some_cell : (d : Extents) → ((a : Axis) → Ordered (d a)) → 1 ≤ cells d
some_cell d h = over axes
  where
    over : (list : List Axis) → 1 ≤ cells_over list d
    over [] = omega arith
    over (a ∷ rest) = mul-le 1 1 (size_of (d a)) (cells_over rest d) (one_le (d a) (h a)) (over rest)

pub joint_le : (b : Bool) (d e : Extents) (n : ℕ) → cells d ≤ n → cells e ≤ n → cells (λ a. cond b (e a) (d a)) ≤ n
joint_le true d e n h k = k
joint_le false d e n h k = h

module _ (about : Described) (shelf : BoundedShelf about) where
  name_few : (w : Word) → is_bound (about w) ≡ true → cells (named_extents (about w)) ≤ most_cells
  name_few w t = go (about w) refl t
    where
      go : (o : Option About) → about w ≡ o → is_bound o ≡ true → cells (named_extents o) ≤ most_cells
      go None e t = absurd (clash t)
      go (Some a) e t = shelf.cells w a e

  pub few_cells : (g : Ranges) (place : ℕ) (e : Expr) → fault_of about g place e ≡ None → cells (domain_of about e) ≤ most_cells
  few_cells g place (at here e) f = few_cells g here e f
  few_cells g place (numeral n) f = omega arith
  few_cells g place (truth b) f = omega arith
  few_cells g place (name w) f = name_few w (name_accepted about g place w f)
  few_cells g place (iterator w) f = omega arith
  few_cells g place (unary o e) f = few_cells g place e (unary_accepted about g place o e f).part
  few_cells g place (binary o d e) f =
      let b = binary_accepted about g place o d e f in
      joint_le (no_axes (domain_of about d)) (domain_of about d) (domain_of about e) most_cells (few_cells g place d b.left) (few_cells g place e b.right)
  few_cells g place (reduce r e) f = omega arith
  few_cells g place (trim t a r e) f =
      let b = trim_accepted about g place t a r e f in
      let h = few_cells g place e b.part in
      let k = set_le (domain_of about e) a (Some r) (trim_le (domain_of about e a) r b.inside) in
      omega arith
  few_cells g place (slice t a e q) f =
      let b = slice_accepted about g place t a e q f in
      let h = few_cells g place e b.part in
      let k = set_le (domain_of about e) a None (one_le (domain_of about e a) (domain_ordered about shelf.ordered g place e b.part a)) in
      omega arith
  few_cells g place (condense o is e) f = omega arith
  few_cells g place (condense_where o is w e) f = omega arith
  few_cells g place (form is e) f = (form_accepted about g place is e f).iterators.few
