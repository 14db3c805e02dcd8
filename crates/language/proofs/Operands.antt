-- Each operation keeps to the kind that its rule gives it.
use Rattle.std.proofs.Common.{◌≡◌, Bool, true, false, cond, not, ◌&&◌, ◌||◌, ◌⊎◌, ℤ, pos, ◌<ℤ◌, Some, None, Option, sym, refl, inl, inr, arith as linear}
use lib.Signed.{le_z}
use borrow.Author.Tests.{clash, not-true}
use Rattle.std.proofs.lemmas.Int.{ints, clamps}
use Rattle.coverage.specs.declared.range.Range.{Range}
use Rattle.coverage.specs.declared.kind.Kind.{Kind}
use Rattle.coverage.specs.declared.kind.Kind.TheVariants.{Truth, Number}
use Rattle.coverage.specs.Axes.{Holds, is_none}
use Rattle.coverage.specs.Kinds.{low, high, Within}
use Rattle.coverage.proofs.Bools.{and_left, and_right}
use Rattle.syntax.specs.declared.Unary.{Unary}
use Rattle.syntax.specs.declared.Unary.TheVariants.{Minus, Not, Abs}
use Rattle.syntax.specs.declared.Arithmetic.{Arithmetic}
use Rattle.syntax.specs.declared.Arithmetic.TheVariants.{Plus, Subtract, Multiply, Divide}
use Rattle.syntax.specs.declared.Binary.{Binary}
use Rattle.syntax.specs.declared.Binary.TheVariants.{Numbers, Overlay, Compares, Truths}
use Rattle.language.specs.Operators.{bit, is_zero, is_true, arithmetic, compares, connects, unary_value, binary_value}
use Rattle.language.specs.Spans.{span_of, corners, holds_zero, unary_kind, binary_kind}
use Rattle.language.specs.Fits.{a_number, a_truth, fits_as}
use Rattle.language.specs.Typing.{iterator_kind}
use Rattle.language.specs.Faults.{is_division, position_inside}
use Rattle.language.specs.Values.{of_one, of_both, at_position}
use Rattle.language.specs.Results.{In}
use Rattle.language.proofs.Corners.{four, add_left, add_right, sub_left, sub_right}
use Rattle.coverage.proofs.Products.{mul_left, mul_right}
use Rattle.language.proofs.Quotients.{quotient_left, quotient_right}

pub bit_in : (b : Bool) → Within Truth (Some (bit b))
bit_in true = (omega (linear, ints), omega (linear, ints))
bit_in false = (omega (linear, ints), omega (linear, ints))

-- what fits as a truth is 0 or 1
pub truth_in : (k : Kind) → fits_as a_truth k ≡ true → (x : Option ℤ) → Within k x → Within Truth x
truth_in Truth t x h = h
truth_in (Number r) t x h = absurd (clash t)

pub iterator_in : (r : Option Range) (x : ℤ) → not (is_none r) ≡ true → Holds r x → Within (iterator_kind r) (Some x)
iterator_in None x e h = absurd (clash e)
iterator_in (Some r) x e h = h

pub unary_in : (o : Unary) (k : Kind) (x : Option ℤ) → Within k x → Within (unary_kind o k) (of_one (unary_value o) x)
unary_in Minus k None h = tt
unary_in Minus k (Some v) h = (omega (linear, ints), omega (linear, ints))
unary_in Not k None h = tt
unary_in Not k (Some v) h = bit_in (is_zero v)
unary_in Abs k None h = tt
unary_in Abs k (Some v) h = (omega (linear, ints, clamps), omega (linear, ints, clamps))

-- ---- two operands

-- a span apart from 0 is above it or below it
pub zero_out : (r : Range) → holds_zero r ≡ false → (pos 0 <ℤ r.lo) ⊎ (r.hi <ℤ pos 0)
zero_out r e = go (le_z r.lo (pos 0)) (le_z (pos 0) r.hi) refl refl e
  where
    go : (a b : Bool) → le_z r.lo (pos 0) ≡ a → le_z (pos 0) r.hi ≡ b → (a && b) ≡ false → (pos 0 <ℤ r.lo) ⊎ (r.hi <ℤ pos 0)
    go true true p q e = absurd (clash (sym e))
    go true false p q e = inr (omega (linear, ints))
    go false b p q e = inl (omega (linear, ints))

apart : (r : Range) (y : ℤ) → (pos 0 <ℤ r.lo) ⊎ (r.hi <ℤ pos 0) → In r y → y ≡ pos 0 → ⊥
apart r y z h e = omega (linear, ints)

-- the four pairs of ends bound every result; for a quotient where the divisor's span excludes 0
pub arithmetic_in : (o : Arithmetic) (a b : Range) (x y : ℤ) → (is_division (Numbers o) && holds_zero b) ≡ false → In a x → In b y → In (corners (arithmetic o) a b) (arithmetic o x y)
unfolding corners
arithmetic_in Plus a b x y z h k = four (arithmetic Plus) a.lo a.hi b.lo b.hi x y (add_left _ _ x y h.0 h.1) (add_right _ _ a.lo y k.0 k.1) (add_right _ _ a.hi y k.0 k.1)
arithmetic_in Subtract a b x y z h k = four (arithmetic Subtract) a.lo a.hi b.lo b.hi x y (sub_left _ _ x y h.0 h.1) (sub_right _ _ a.lo y k.0 k.1) (sub_right _ _ a.hi y k.0 k.1)
arithmetic_in Multiply a b x y z h k = four (arithmetic Multiply) a.lo a.hi b.lo b.hi x y (mul_left _ _ x y h.0 h.1) (mul_right _ _ a.lo y k.0 k.1) (mul_right _ _ a.hi y k.0 k.1)
arithmetic_in Divide a b x y z h k =
    let s = zero_out b z in
    four (arithmetic Divide) a.lo a.hi b.lo b.hi x y (quotient_left _ _ x y (apart b y s k) h.0 h.1) (quotient_right _ _ a.lo y s k.0 k.1) (quotient_right _ _ a.hi y s k.0 k.1)

overlay_in : (b : Bool) (j k : Kind) (x y : ℤ) → In (span_of j) x → In (span_of k) y → Within (binary_kind Overlay j k) (Some (cond b y x))
overlay_in true j k x y h l = (omega (linear, ints, clamps), omega (linear, ints, clamps))
overlay_in false j k x y h l = (omega (linear, ints, clamps), omega (linear, ints, clamps))

both_in : (o : Binary) (j k : Kind) (x y : ℤ) → (is_division o && holds_zero (span_of k)) ≡ false → In (span_of j) x → In (span_of k) y → Within (binary_kind o j k) (Some (binary_value o x y))
both_in (Numbers o) j k x y z h l = arithmetic_in o (span_of j) (span_of k) x y z h l
both_in Overlay j k x y z h l = overlay_in (is_zero x) j k x y h l
both_in (Compares o) j k x y z h l = bit_in (compares o x y)
both_in (Truths o) j k x y z h l = bit_in (connects o (is_true x) (is_true y))

pub binary_in : (o : Binary) (j k : Kind) (x y : Option ℤ) → not (is_division o && holds_zero (span_of k)) ≡ true → Within j x → Within k y → Within (binary_kind o j k) (of_both (binary_value o) x y)
binary_in o j k None y z h l = tt
binary_in o j k (Some a) None z h l = tt
binary_in o j k (Some a) (Some b) z h l = both_in o j k a b (not-true _ z) h l

-- ---- positions

pub position_in : (j k : Kind) (x : Option ℤ) (f : ℤ → Option ℤ) → Within j x → ((i : ℤ) → In (span_of j) i → Within k (f i)) → Within k (at_position x f)
position_in j k None f h l = tt
position_in j k (Some i) f h l = l i h

-- a position that passed lies on the axis
pub position_holds : (r : Option Range) (k : Kind) (i : ℤ) → position_inside r k ≡ true → fits_as a_number k ≡ true → In (span_of k) i → Holds r i
position_holds None k i e t h = tt
position_holds (Some r) k i e t h = go (fits_as a_number k) t e
  where
    go : (b : Bool) → b ≡ true → (not b || (le_z r.lo (low k) && le_z (high k) r.hi)) ≡ true → In r i
    go true t e =
        let a = and_left (le_z r.lo (low k)) _ e in
        let b = and_right (le_z r.lo (low k)) _ e in
        (omega (linear, ints), omega (linear, ints))
    go false t e = absurd (clash t)
