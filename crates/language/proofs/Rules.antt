-- What acceptance of a construct says of its parts: the fact behind each test that it passed.
use Rattle.std.proofs.Common.{◌≡◌, ℕ, ◌+◌, ◌*◌, ◌≤◌, Bool, true, false, not, ◌&&◌, leb, List, Some, None, Option, refl, arith as linear, leb-true}
use Rattle.coverage.specs.declared.axis.Axis.{Axis}
use Rattle.coverage.specs.declared.range.Range.{Range}
use Rattle.coverage.specs.declared.kind.Kind.{Kind}
use Rattle.coverage.specs.declared.refusal.Refusal.{Refusal}
use Rattle.coverage.specs.Axes.{no_axes, is_none, cells}
use Rattle.coverage.specs.Limits.{kind_narrow, few}
use Rattle.coverage.proofs.Bools.{and_left, and_right}
use Rattle.syntax.specs.declared.Unary.{Unary}
use Rattle.syntax.specs.declared.Binary.{Binary}
use Rattle.syntax.specs.declared.Fold.{Fold}
use Rattle.syntax.specs.declared.Reduce.{Reduce}
use Rattle.syntax.specs.Tree.{Word, Iterator, Expr, name, iterator, unary, binary, reduce, trim, slice, condense, condense_where, form}
use Rattle.language.specs.Spans.{span_of, holds_zero, unary_kind, binary_kind, fold_kind, widened, reduce_kind}
use Rattle.language.specs.Fits.{a_number, a_truth, fits_as, unary_expects, operands_fit, fold_expects, reduce_expects}
use Rattle.language.specs.Iterators.{Ranges, iterator_extents, bind_ranges, new_words, own_axes}
use Rattle.language.specs.Typing.{Described, domain_of, kind_of, promise_of}
use Rattle.language.specs.Limits.{most_cells}
use Rattle.language.specs.Faults.{most_reads, unless, first, limits_fault, domains_fit, is_bound, name_fault, iterator_fault, unary_fault, is_division, divisor_fault, binary_fault, reduce_fault, trim_inside, trim_fault, position_inside, slice_fault, iterators_fault, body_fits, where_fits, condense_fault, condense_where_fault, form_fault, fault_of}

-- ---- refusals in order

none_some : {B : Type 0} {r : Refusal} → ◌≡◌ {A = Option Refusal} (Some r) None → B
none_some e = let z : ◌≡◌ {A = ℕ} 0 1 = cc in absurd (omega linear)

pub one : (x y : Option Refusal) → first x y ≡ None → x ≡ None
one None y e = refl
one (Some r) y e = none_some e

pub two : (x y : Option Refusal) → first x y ≡ None → y ≡ None
two None y e = e
two (Some r) y e = none_some e

pub passes : (b : Bool) (n place : ℕ) → unless b n place ≡ None → b ≡ true
passes true n place e = refl
passes false n place e = none_some e

pub low_promise : (n place : ℕ) → unless (leb n most_reads) 11 place ≡ None → n ≤ most_reads
low_promise n place e = leb-true _ _ (passes (leb n most_reads) 11 place e)

-- ---- tests that several rules have

-- the span is within the bounds, the promise no higher than allowed
pub record InLimits (k : Kind) (n : ℕ) : Type 0 where
  pub span : kind_narrow k ≡ true
  pub few : n ≤ most_reads

pub in_limits : (k : Kind) (n place : ℕ) → limits_fault k n place ≡ None → InLimits k n
unfolding limits_fault
in_limits k n place e =
    let s = unless (kind_narrow k) 9 place in
    record { span = passes (kind_narrow k) 9 place (one s (unless (leb n most_reads) 11 place) e); few = low_promise n place (two s (unless (leb n most_reads) 11 place) e) }

pub record OwnIterators (is : List Iterator) : Type 0 where
  pub own : own_axes is ≡ true
  pub few : cells (iterator_extents is) ≤ most_cells

pub own_iterators : (g : Ranges) (is : List Iterator) (place : ℕ) → iterators_fault g is place ≡ None → OwnIterators is
unfolding iterators_fault
own_iterators g is place e =
    let rest = two (unless (new_words is g) 5 place) _ e in
    let o = unless (own_axes is) 6 place in
    let c = unless (few (iterator_extents is)) 10 place in
    record { own = passes (own_axes is) 6 place (one o c rest); few = leb-true _ _ (passes (few (iterator_extents is)) 10 place (two o c rest)) }

-- ---- each construct

module _ (about : Described) (g : Ranges) (place : ℕ) where
  -- the part is accepted too
  abbrev pub Accepted : Expr → Type 0
  Accepted e = fault_of about g place e ≡ None

  pub name_accepted : (w : Word) → Accepted (name w) → is_bound (about w) ≡ true
  unfolding name_fault
  name_accepted w f = passes (is_bound (about w)) 5 place f

  pub iterator_accepted : (w : Word) → Accepted (iterator w) → not (is_none (g w)) ≡ true
  unfolding iterator_fault
  iterator_accepted w f = passes (not (is_none (g w))) 5 place f

  pub record UnaryAccepted (o : Unary) (e : Expr) : Type 0 where
    pub part : Accepted e
    pub fits : fits_as (unary_expects o) (kind_of about g e) ≡ true
    pub limits : InLimits (unary_kind o (kind_of about g e)) (promise_of about e)

  pub unary_accepted : (o : Unary) (e : Expr) → Accepted (unary o e) → UnaryAccepted o e
  unfolding unary_fault
  unary_accepted o e f =
      let k = kind_of about g e in
      let n = promise_of about e in
      let r = two (fault_of about g place e) (unary_fault o k n place) f in
      let t = unless (fits_as (unary_expects o) k) 7 place in
      let l = limits_fault (unary_kind o k) n place in
      record { part = one (fault_of about g place e) (unary_fault o k n place) f; fits = passes (fits_as (unary_expects o) k) 7 place (one t l r); limits = in_limits (unary_kind o k) n place (two t l r) }

  pub record BinaryAccepted (o : Binary) (d e : Expr) : Type 0 where
    pub left : Accepted d
    pub right : Accepted e
    pub fits : operands_fit o (kind_of about g d) (kind_of about g e) ≡ true
    pub domains : domains_fit (domain_of about d) (domain_of about e) ≡ true
    pub divisor : not (is_division o && holds_zero (span_of (kind_of about g e))) ≡ true
    pub limits : InLimits (binary_kind o (kind_of about g d) (kind_of about g e)) (promise_of about d + promise_of about e)

  pub binary_accepted : (o : Binary) (d e : Expr) → Accepted (binary o d e) → BinaryAccepted o d e
  unfolding binary_fault
  binary_accepted o d e f =
      let j = kind_of about g d in
      let k = kind_of about g e in
      let n = promise_of about d + promise_of about e in
      let fit = operands_fit o j k && domains_fit (domain_of about d) (domain_of about e) in
      let s = divisor_fault o k place in
      let l = limits_fault (binary_kind o j k) n place in
      let own = first (unless fit 7 place) (first s l) in
      let r = two (fault_of about g place d) (first (fault_of about g place e) own) f in
      let r2 = two (fault_of about g place e) own r in
      let t = passes fit 7 place (one (unless fit 7 place) (first s l) r2) in
      let r3 = two (unless fit 7 place) (first s l) r2 in
      record {
        left = one (fault_of about g place d) (first (fault_of about g place e) own) f;
        right = one (fault_of about g place e) own r;
        fits = and_left (operands_fit o j k) _ t;
        domains = and_right (operands_fit o j k) _ t;
        divisor = passes (not (is_division o && holds_zero (span_of k))) 8 place (one s l r3);
        limits = in_limits (binary_kind o j k) n place (two s l r3);
      }

  pub record ReduceAccepted (r : Reduce) (e : Expr) : Type 0 where
    pub part : Accepted e
    pub fits : fits_as (reduce_expects r) (kind_of about g e) ≡ true
    pub limits : InLimits (reduce_kind r (cells (domain_of about e)) (kind_of about g e)) (cells (domain_of about e) * promise_of about e)

  pub reduce_accepted : (r : Reduce) (e : Expr) → Accepted (reduce r e) → ReduceAccepted r e
  unfolding reduce_fault
  reduce_accepted r e f =
      let k = kind_of about g e in
      let n = cells (domain_of about e) in
      let t = unless (fits_as (reduce_expects r) k) 7 place in
      let l = limits_fault (reduce_kind r n k) (n * promise_of about e) place in
      let q = two (fault_of about g place e) (first t l) f in
      record {
        part = one (fault_of about g place e) (first t l) f;
        fits = passes (fits_as (reduce_expects r) k) 7 place (one t l q);
        limits = in_limits (reduce_kind r n k) (n * promise_of about e) place (two t l q);
      }

  pub record TrimAccepted (a : Axis) (r : Range) (e : Expr) : Type 0 where
    pub part : Accepted e
    pub inside : trim_inside (domain_of about e a) r ≡ true

  pub trim_accepted : (twice : Bool) (a : Axis) (r : Range) (e : Expr) → Accepted (trim twice a r e) → TrimAccepted a r e
  unfolding trim_fault
  trim_accepted twice a r e f =
      let t = not twice && trim_inside (domain_of about e a) r in
      record {
        part = one (fault_of about g place e) (unless t 6 place) f;
        inside = and_right (not twice) _ (passes t 6 place (two (fault_of about g place e) (unless t 6 place) f));
      }

  pub record SliceAccepted (a : Axis) (e q : Expr) : Type 0 where
    pub part : Accepted e
    pub position : Accepted q
    pub inside : position_inside (domain_of about e a) (kind_of about g q) ≡ true
    pub fits : fits_as a_number (kind_of about g q) ≡ true
    pub single : no_axes (domain_of about q) ≡ true
    pub few : promise_of about e + promise_of about q ≤ most_reads

  pub slice_accepted : (twice : Bool) (a : Axis) (e q : Expr) → Accepted (slice twice a e q) → SliceAccepted a e q
  unfolding slice_fault
  slice_accepted twice a e q f =
      let k = kind_of about g q in
      let n = promise_of about e + promise_of about q in
      let t = not twice && position_inside (domain_of about e a) k in
      let s = fits_as a_number k && no_axes (domain_of about q) in
      let l = unless (leb n most_reads) 11 place in
      let own = first (unless t 6 place) (first (unless s 7 place) l) in
      let r = two (fault_of about g place e) (first (fault_of about g place q) own) f in
      let r2 = two (fault_of about g place q) own r in
      let r3 = two (unless t 6 place) (first (unless s 7 place) l) r2 in
      let b = passes s 7 place (one (unless s 7 place) l r3) in
      record {
        part = one (fault_of about g place e) (first (fault_of about g place q) own) f;
        position = one (fault_of about g place q) own r;
        inside = and_right (not twice) _ (passes t 6 place (one (unless t 6 place) (first (unless s 7 place) l) r2));
        fits = and_left (fits_as a_number k) _ b;
        single = and_right (fits_as a_number k) _ b;
        few = low_promise n place (two (unless s 7 place) l r3);
      }

-- ---- forms: the body is accepted with the iterators in use

module _ (about : Described) (g : Ranges) (place : ℕ) (is : List Iterator) where
  abbrev pub AcceptedInside : Expr → Type 0
  AcceptedInside e = fault_of about (bind_ranges is g) place e ≡ None

  abbrev inner : Expr → Kind
  inner e = kind_of about (bind_ranges is g) e

  abbrev points : ℕ
  points = cells (iterator_extents is)

  pub record CondenseAccepted (o : Fold) (e : Expr) : Type 0 where
    pub iterators : OwnIterators is
    pub body : AcceptedInside e
    pub fits : fits_as (fold_expects o) (inner e) ≡ true
    pub single : no_axes (domain_of about e) ≡ true
    pub limits : InLimits (fold_kind o points (inner e)) (points * promise_of about e)

  pub condense_accepted : (o : Fold) (e : Expr) → fault_of about g place (condense o is e) ≡ None → CondenseAccepted o e
  unfolding condense_fault
  condense_accepted o e f =
      let n = points * promise_of about e in
      let t = body_fits o (domain_of about e) (inner e) in
      let l = limits_fault (fold_kind o points (inner e)) n place in
      let own = first (unless t 7 place) l in
      let i = iterators_fault g is place in
      let b = fault_of about (bind_ranges is g) place e in
      let r = two i (first b own) f in
      let r2 = two b own r in
      let u = passes t 7 place (one (unless t 7 place) l r2) in
      record {
        iterators = own_iterators g is place (one i (first b own) f);
        body = one b own r;
        fits = and_left (fits_as (fold_expects o) (inner e)) _ u;
        single = and_right (fits_as (fold_expects o) (inner e)) _ u;
        limits = in_limits (fold_kind o points (inner e)) n place (two (unless t 7 place) l r2);
      }

  pub record WhereAccepted (o : Fold) (w e : Expr) : Type 0 where
    pub iterators : OwnIterators is
    pub test : AcceptedInside w
    pub body : AcceptedInside e
    pub test_fits : fits_as a_truth (inner w) ≡ true
    pub test_single : no_axes (domain_of about w) ≡ true
    pub fits : fits_as (fold_expects o) (inner e) ≡ true
    pub single : no_axes (domain_of about e) ≡ true
    pub limits : InLimits (widened o (fold_kind o points (inner e))) (points * (promise_of about w + promise_of about e))

  pub where_accepted : (o : Fold) (w e : Expr) → fault_of about g place (condense_where o is w e) ≡ None → WhereAccepted o w e
  unfolding condense_where_fault
  where_accepted o w e f =
      let n = points * (promise_of about w + promise_of about e) in
      let tw = where_fits (domain_of about w) (inner w) in
      let te = body_fits o (domain_of about e) (inner e) in
      let l = limits_fault (widened o (fold_kind o points (inner e))) n place in
      let own = first (unless (tw && te) 7 place) l in
      let i = iterators_fault g is place in
      let a = fault_of about (bind_ranges is g) place w in
      let b = fault_of about (bind_ranges is g) place e in
      let r = two i (first a (first b own)) f in
      let r2 = two a (first b own) r in
      let r3 = two b own r2 in
      let u = passes (tw && te) 7 place (one (unless (tw && te) 7 place) l r3) in
      record {
        iterators = own_iterators g is place (one i (first a (first b own)) f);
        test = one a (first b own) r;
        body = one b own r2;
        test_fits = and_left (fits_as a_truth (inner w)) _ (and_left tw te u);
        test_single = and_right (fits_as a_truth (inner w)) _ (and_left tw te u);
        fits = and_left (fits_as (fold_expects o) (inner e)) _ (and_right tw te u);
        single = and_right (fits_as (fold_expects o) (inner e)) _ (and_right tw te u);
        limits = in_limits (widened o (fold_kind o points (inner e))) n place (two (unless (tw && te) 7 place) l r3);
      }

  pub record FormAccepted (e : Expr) : Type 0 where
    pub iterators : OwnIterators is
    pub body : AcceptedInside e
    pub single : no_axes (domain_of about e) ≡ true

  pub form_accepted : (e : Expr) → fault_of about g place (form is e) ≡ None → FormAccepted e
  unfolding form_fault
  form_accepted e f =
      let i = iterators_fault g is place in
      let b = fault_of about (bind_ranges is g) place e in
      let t = unless (no_axes (domain_of about e)) 7 place in
      let r = two i (first b t) f in
      record {
        iterators = own_iterators g is place (one i (first b t) f);
        body = one b t r;
        single = passes (no_axes (domain_of about e)) 7 place (two b t r);
      }
