-- What is worked out of a tree: each construct by its rule, after its operands in turn.
-- So a walk that holds `told r ≡ typing about g place e` of each part e that it has answered by r needs, at a
-- construct, only the equation of its rule's function and the line of EachByItsRule for it: where r is Ok the
-- and_then goes on with it, where r is Err it ends.
use Rattle.std.specs.Prelude.{◌≡◌, ℕ, Bool, List, [], Ok, Err, Result}
use Rattle.coverage.specs.declared.axis.Axis.{Axis}
use Rattle.coverage.specs.declared.range.Range.{Range}
use Rattle.coverage.specs.declared.refusal.Refusal.{Refusal}
use Rattle.coverage.specs.Axes.{Extents, cells}
use Rattle.syntax.specs.declared.Unary.{Unary}
use Rattle.syntax.specs.declared.Binary.{Binary}
use Rattle.syntax.specs.declared.Fold.{Fold}
use Rattle.syntax.specs.declared.Reduce.{Reduce}
use Rattle.syntax.specs.Tree.{Word, Iterator, Expr, at, numeral, truth, name, iterator, unary, binary, reduce, trim, slice, condense, condense_where, form, Query}
use Rattle.language.specs.Iterators.{Ranges, no_ranges, iterator_extents, bind_ranges}
use Rattle.language.specs.Typing.{Described, domain_of, kind_of, promise_of}
use Rattle.language.specs.Faults.{iterators_fault, fault_of}
use Rattle.language.specs.Queries.{Announced, bind_about, bindings_fault, checked}
use Rattle.checking.specs.Rules.{announce, accepts, numeral_rule, truth_rule, name_rule, iterator_rule, unary_rule, binary_rule, reduce_rule, trim_rule, slice_rule, condense_rule, condense_where_rule, form_rule, query_rule}

-- what the definitions say of an expression: its domain, kind and promise, or its first refusal
abbrev pub typing : Described → Ranges → ℕ → Expr → Result Announced Refusal
typing about g place e = accepts (fault_of about g place e) (announce (domain_of about e) (kind_of about g e) (promise_of about e))

-- the domain that iterators go through, or their refusal
abbrev pub iterators_rule : Ranges → List Iterator → ℕ → Result Extents Refusal
iterators_rule g is place = accepts (iterators_fault g is place) (iterator_extents is)

-- one after the other: a refusal ends it
abbrev pub and_then : {V : Type 0} → Result V Refusal → (V → Result Announced Refusal) → Result Announced Refusal
and_then (Ok v) next = next v
and_then (Err r) next = Err r

-- every construct is worked out by its rule, after its operands left to right; iterators come before
-- bodies, and bodies are worked out with the iterators in use
pub record EachByItsRule (about : Described) (g : Ranges) (place : ℕ) : Type 0 where
  pub placed : (here : ℕ) (e : Expr) → typing about g place (at here e) ≡ typing about g here e
  pub numerals : (n : ℕ) → typing about g place (numeral n) ≡ numeral_rule n
  pub truths : (b : Bool) → typing about g place (truth b) ≡ truth_rule
  pub names : (w : Word) → typing about g place (name w) ≡ name_rule (about w) place
  pub words : (w : Word) → typing about g place (iterator w) ≡ iterator_rule (g w) place
  pub prefixes : (o : Unary) (e : Expr) → typing about g place (unary o e) ≡ and_then (typing about g place e) (λ p. unary_rule o p place)
  pub pairs : (o : Binary) (d e : Expr) →
      typing about g place (binary o d e) ≡ and_then (typing about g place d) (λ p. and_then (typing about g place e) (λ q. binary_rule o p q place))
  pub functions : (r : Reduce) (e : Expr) → typing about g place (reduce r e) ≡ and_then (typing about g place e) (λ p. reduce_rule r p place)
  pub trims : (twice : Bool) (a : Axis) (r : Range) (e : Expr) →
      typing about g place (trim twice a r e) ≡ and_then (typing about g place e) (λ p. trim_rule twice a r p place)
  pub slices : (twice : Bool) (a : Axis) (e q : Expr) →
      typing about g place (slice twice a e q) ≡ and_then (typing about g place e) (λ p. and_then (typing about g place q) (λ k. slice_rule twice a p k place))
  pub condenses : (o : Fold) (is : List Iterator) (e : Expr) →
      typing about g place (condense o is e) ≡ and_then (iterators_rule g is place) (λ d. and_then (typing about (bind_ranges is g) place e) (λ p. condense_rule o (cells d) p place))
  pub wheres : (o : Fold) (is : List Iterator) (w e : Expr) →
      typing about g place (condense_where o is w e)
      ≡ and_then (iterators_rule g is place) (λ d. and_then (typing about (bind_ranges is g) place w) (λ t. and_then (typing about (bind_ranges is g) place e) (λ p. condense_where_rule o (cells d) t p place)))
  pub forms : (is : List Iterator) (e : Expr) →
      typing about g place (form is e) ≡ and_then (iterators_rule g is place) (λ d. and_then (typing about (bind_ranges is g) place e) (λ p. form_rule d p place))

-- the bindings of a query, all tested, or their first refusal
abbrev pub bindings_rule : Described → Query → Result (Unit {0}) Refusal
bindings_rule find q = accepts (bindings_fault find [] q.bindings) tt

-- the check of a query: its bindings, then its body with no iterators in use, then its own promise
abbrev pub CheckedInTurn : Type 0
CheckedInTurn = (find : Described) (q : Query) →
    checked find q ≡ and_then (bindings_rule find q) (λ u. and_then (typing (bind_about q.bindings find) no_ranges 0 q.body) query_rule)
