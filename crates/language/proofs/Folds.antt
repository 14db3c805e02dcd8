-- Many values made one keep to the kind that the rule gives.
use Rattle.std.proofs.Common.{◌≡◌, ℕ, zero, suc, Bool, true, false, cond, ◌⊎◌, ℤ, pos, negsuc, ◌+ℤ◌, ◌*ℤ◌, ◌≤ℤ◌, Some, None, Option, inl, inr, arith as linear}
use Rattle.std.specs.Int.{int_min, int_max}
use Rattle.std.proofs.lemmas.Int.{ints, clamps}
use Rattle.coverage.specs.declared.kind.Kind.{Kind}
use Rattle.coverage.specs.declared.kind.Kind.TheVariants.{Truth}
use Rattle.coverage.specs.Kinds.{low, high, Within}
use Rattle.syntax.specs.declared.Fold.{Fold}
use Rattle.syntax.specs.declared.Fold.TheVariants.{Sum, Least, Greatest, Every, Any}
use Rattle.syntax.specs.declared.Reduce.{Reduce}
use Rattle.syntax.specs.declared.Reduce.TheVariants.{Whole, Count}
use Rattle.language.specs.Operators.{is_true}
use Rattle.language.specs.Spans.{number, fold_kind, widened, reduce_kind}
use Rattle.language.specs.Fits.{a_truth, fits_as, fold_expects, reduce_expects}
use Rattle.language.specs.Values.{Pick, null, nothing, value, picked, picked_where, combine, join, gather, outcome, fold_of}
use Rattle.language.proofs.Operands.{bit_in, truth_in}

times_more : (n : ℕ) (z : ℤ) → pos (suc n) *ℤ z ≡ (pos n *ℤ z) +ℤ z
times_more n z = omega (linear, ints)

times_sign : (n : ℕ) (z : ℤ) → ((pos 0 ≤ℤ z) × (pos 0 ≤ℤ (pos n *ℤ z))) ⊎ ((z ≤ℤ pos 0) × ((pos n *ℤ z) ≤ℤ pos 0))
times_sign n (pos k) = inl (omega (linear, ints), omega (linear, ints))
times_sign n (negsuc k) = inr (omega (linear, ints), omega (linear, ints))

-- what a sum has gathered, nothing counting as 0
sum_step : (l h L H : ℤ) (x : Pick) (y : Option ℤ) → Within (number L H) (outcome Sum x) → Within (number l h) y → Within (number (L +ℤ l) (H +ℤ h)) (outcome Sum (join Sum x (picked y)))
sum_step l h L H null y p q = tt
sum_step l h L H nothing None p q = tt
sum_step l h L H nothing (Some b) p q = (omega (linear, ints), omega (linear, ints))
sum_step l h L H (value a) None p q = tt
sum_step l h L H (value a) (Some b) p q = (omega (linear, ints), omega (linear, ints))

sum_in : (k : Kind) (y : ℕ → Option ℤ) → ((n : ℕ) → Within k (y n)) → (n : ℕ) → Within (fold_kind Sum n k) (outcome Sum (gather Sum (λ i. picked (y i)) n))
sum_in k y h zero = (omega (linear, ints), omega (linear, ints))
sum_in k y h (suc n) =
    rw (times_more n (low k), times_more n (high k))
    (sum_step (low k) (high k) (pos n *ℤ low k) (pos n *ℤ high k) (gather Sum (λ i. picked (y i)) n) (y n) (sum_in k y h n) (h n))

-- null, nothing, or a value of a kind
abbrev pub InPick : Kind → Pick → Type 0
InPick k null = Unit {0}
InPick k nothing = Unit {0}
InPick k (value v) = (low k ≤ℤ v) × (v ≤ℤ high k)

pub picked_in : (k : Kind) (y : Option ℤ) → Within k y → InPick k (picked y)
picked_in k None h = tt
picked_in k (Some v) h = h

cond_in : (b : Bool) (k : Kind) (y : Option ℤ) → Within k y → InPick k (cond b (picked y) nothing)
cond_in true k y h = picked_in k y h
cond_in false k y h = tt

pub picked_where_in : (k : Kind) (w y : Option ℤ) → Within k y → InPick k (picked_where w y)
picked_where_in k None y h = tt
picked_where_in k (Some w) y h = cond_in (is_true w) k y h

-- with a `where`: the span widened to hold 0
hull_step : (l h L H : ℤ) (x y : Pick) → ((pos 0 ≤ℤ l) × (pos 0 ≤ℤ L)) ⊎ ((l ≤ℤ pos 0) × (L ≤ℤ pos 0)) → ((pos 0 ≤ℤ h) × (pos 0 ≤ℤ H)) ⊎ ((h ≤ℤ pos 0) × (H ≤ℤ pos 0)) →
    Within (number (int_min (pos 0) L) (int_max (pos 0) H)) (outcome Sum x) → InPick (number l h) y →
    Within (number (int_min (pos 0) (L +ℤ l)) (int_max (pos 0) (H +ℤ h))) (outcome Sum (join Sum x y))
hull_step l h L H null y s t p q = tt
hull_step l h L H nothing null s t p q = tt
hull_step l h L H nothing nothing s t p q = (omega (linear, ints, clamps), omega (linear, ints, clamps))
hull_step l h L H nothing (value b) s t p q = (omega (linear, ints, clamps), omega (linear, ints, clamps))
hull_step l h L H (value a) null s t p q = tt
hull_step l h L H (value a) nothing s t p q = (omega (linear, ints, clamps), omega (linear, ints, clamps))
hull_step l h L H (value a) (value b) s t p q = (omega (linear, ints, clamps), omega (linear, ints, clamps))

hull_in : (k : Kind) (f : ℕ → Pick) → ((n : ℕ) → InPick k (f n)) → (n : ℕ) → Within (widened Sum (fold_kind Sum n k)) (outcome Sum (gather Sum f n))
hull_in k f h zero = (omega (linear, ints, clamps), omega (linear, ints, clamps))
hull_in k f h (suc n) =
    rw (times_more n (low k), times_more n (high k))
    (hull_step (low k) (high k) (pos n *ℤ low k) (pos n *ℤ high k) (gather Sum f n) (f n) (times_sign n (low k)) (times_sign n (high k)) (hull_in k f h n) (h n))

-- the other folds answer one of the values
abbrev Keeps : Kind → (ℤ → ℤ → ℤ) → Type 0
Keeps k f = (a b : ℤ) → InPick k (value a) → InPick k (value b) → InPick k (value (f a b))

min_keeps : (k : Kind) → Keeps k int_min
min_keeps k a b h l = (omega (linear, ints, clamps), omega (linear, ints, clamps))

max_keeps : (k : Kind) → Keeps k int_max
max_keeps k a b h l = (omega (linear, ints, clamps), omega (linear, ints, clamps))

join_in : (o : Fold) (k : Kind) → Keeps k (combine o) → (x y : Pick) → InPick k x → InPick k y → InPick k (join o x y)
join_in o k c null y h l = tt
join_in o k c nothing y h l = l
join_in o k c (value a) null h l = tt
join_in o k c (value a) nothing h l = h
join_in o k c (value a) (value b) h l = c a b h l

fold_in : (o : Fold) (k : Kind) → Keeps k (combine o) → (f : ℕ → Pick) → ((n : ℕ) → InPick k (f n)) → (n : ℕ) → InPick k (gather o f n)
fold_in o k c f h zero = tt
fold_in o k c f h (suc n) = join_in o k c (gather o f n) (f n) (fold_in o k c f h n) (h n)

least_done : (k : Kind) (x : Pick) → InPick k x → Within k (outcome Least x)
least_done k null h = tt
least_done k nothing h = tt
least_done k (value v) h = h

greatest_done : (k : Kind) (x : Pick) → InPick k x → Within k (outcome Greatest x)
greatest_done k null h = tt
greatest_done k nothing h = tt
greatest_done k (value v) h = h

every_done : (k : Kind) (x : Pick) → fits_as a_truth k ≡ true → InPick k x → Within Truth (outcome Every x)
every_done k null t h = tt
every_done k nothing t h = bit_in true
every_done k (value v) t h = truth_in k t (Some v) h

any_done : (k : Kind) (x : Pick) → fits_as a_truth k ≡ true → InPick k x → Within Truth (outcome Any x)
any_done k null t h = tt
any_done k nothing t h = bit_in false
any_done k (value v) t h = truth_in k t (Some v) h

-- over every point
pub whole_in : (o : Fold) (k : Kind) (y : ℕ → Option ℤ) → fits_as (fold_expects o) k ≡ true → ((n : ℕ) → Within k (y n)) → (n : ℕ) → Within (fold_kind o n k) (outcome o (gather o (λ i. picked (y i)) n))
whole_in Sum k y t h n = sum_in k y h n
whole_in Least k y t h n = least_done k (gather Least (λ i. picked (y i)) n) (fold_in Least k (min_keeps k) (λ i. picked (y i)) (λ i. picked_in k (y i) (h i)) n)
whole_in Greatest k y t h n = greatest_done k (gather Greatest (λ i. picked (y i)) n) (fold_in Greatest k (max_keeps k) (λ i. picked (y i)) (λ i. picked_in k (y i) (h i)) n)
whole_in Every k y t h n = every_done k (gather Every (λ i. picked (y i)) n) t (fold_in Every k (min_keeps k) (λ i. picked (y i)) (λ i. picked_in k (y i) (h i)) n)
whole_in Any k y t h n = any_done k (gather Any (λ i. picked (y i)) n) t (fold_in Any k (max_keeps k) (λ i. picked (y i)) (λ i. picked_in k (y i) (h i)) n)

-- over the points that a `where` picks
pub pick_in : (o : Fold) (k : Kind) (f : ℕ → Pick) → fits_as (fold_expects o) k ≡ true → ((n : ℕ) → InPick k (f n)) → (n : ℕ) → Within (widened o (fold_kind o n k)) (outcome o (gather o f n))
pick_in Sum k f t h n = hull_in k f h n
pick_in Least k f t h n = least_done k (gather Least f n) (fold_in Least k (min_keeps k) f h n)
pick_in Greatest k f t h n = greatest_done k (gather Greatest f n) (fold_in Greatest k (max_keeps k) f h n)
pick_in Every k f t h n = every_done k (gather Every f n) t (fold_in Every k (min_keeps k) f h n)
pick_in Any k f t h n = any_done k (gather Any f n) t (fold_in Any k (max_keeps k) f h n)

-- `count` is a sum of truths
count_in : (k : Kind) (y : ℕ → Option ℤ) → fits_as a_truth k ≡ true → ((n : ℕ) → Within k (y n)) → (n : ℕ) → Within (number (pos 0) (pos n)) (outcome Sum (gather Sum (λ i. picked (y i)) n))
count_in k y t h n = wider (outcome Sum (gather Sum (λ i. picked (y i)) n)) (sum_in Truth y (λ i. truth_in k t (y i) (h i)) n)
  where
    wider : (x : Option ℤ) → Within (fold_kind Sum n Truth) x → Within (number (pos 0) (pos n)) x
    wider None l = tt
    wider (Some v) l = (omega (linear, ints), omega (linear, ints))

-- a function over cells
pub reduce_in : (r : Reduce) (k : Kind) (y : ℕ → Option ℤ) → fits_as (reduce_expects r) k ≡ true → ((n : ℕ) → Within k (y n)) → (n : ℕ) → Within (reduce_kind r n k) (outcome (fold_of r) (gather (fold_of r) (λ i. picked (y i)) n))
reduce_in (Whole o) k y t h n = whole_in o k y t h n
reduce_in Count k y t h n = count_in k y t h n
