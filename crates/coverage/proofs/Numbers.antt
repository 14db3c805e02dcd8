-- Cell numbers and coordinates are each other's inverse.
use Rattle.std.proofs.Common.{◌≡◌, ℕ, ◌+◌, ◌*◌, ◌/◌, ◌%◌, ◌<◌, Bool, true, false, cond, not, List, [], ◌∷◌, ℤ, pos, negsuc, ◌+ℤ◌, ◌-ℤ◌, ◌≤ℤ◌, Some, None, Option, refl, ap, ◌∙◌, arith, eq-eqb}
use borrow.Author.Tests.{not-true}
use Rattle.std.proofs.lemmas.Int.{ints}
use Rattle.std.proofs.lemmas.Nat.{div_below, div-add-mod', div-mul-add, mod-mul-add, mul-add-lt}
use Rattle.coverage.specs.declared.range.Range.{Range}
use Rattle.coverage.specs.declared.axis.Axis.{Axis}
use Rattle.coverage.specs.Axes.{axes, same_axis, distinct, Extents, Coordinates, put, above, width, size_of, all_over, cells_over, cells, Holds, Inside, Ordered, coord_of, point_over, point_at, step_of, number_over, number_at}
use Rattle.coverage.proofs.Bools.{and_left, and_right}
use Rattle.coverage.proofs.Points.{above_one, axis_of_lem}

pub put_other : (rest : List Axis) (d : Extents) (q : Coordinates) (a : Axis) (v : ℤ) → all_over (λ b. not (same_axis a b)) rest ≡ true → number_over rest d (put q a v) ≡ number_over rest d q
put_other [] d q a v h = refl
put_other (b ∷ rest) d q a v h =
    let i = put_other rest d q a v (and_right (not (same_axis a b)) _ h) in
    let s = not-true (same_axis a b) (and_left (not (same_axis a b)) _ h) in
    rw (i, s) refl

pub size_some : (r : Option Range) → Ordered r → 0 < size_of r
size_some None h = omega arith
size_some (Some r) h = let e = above_one r.lo r.hi h in omega (arith, ints)

pub above_pos : (z : ℤ) → pos 0 ≤ℤ z → pos (above z) ≡ z
above_pos (pos n) k = refl
above_pos (negsuc n) k = absurd (omega (arith, ints))

above_of : (z : ℤ) (n : ℕ) → z ≡ pos n → above z ≡ n
above_of z n e = ap above e

step_coord : (r : Option Range) (n : ℕ) (v : ℤ) → Ordered r → step_of r (coord_of r n v) ≡ n % size_of r
step_coord None n v h = omega arith
step_coord (Some r) n v h = above_of ((r.lo +ℤ pos (n % width r)) -ℤ r.lo) (n % width r) (omega (arith, ints))

pub put_same : (q : Coordinates) (a : Axis) (v : ℤ) → put q a v a ≡ v
put_same q a v = let s : same_axis a a ≡ true = eq-eqb _ _ refl in rw s refl

pub number_over_lem : (list : List Axis) → distinct list ≡ true → (d : Extents) (n : ℕ) (p : Coordinates) → ((a : Axis) → Ordered (d a)) → n < cells_over list d → number_over list d (point_over list d n p) ≡ n
number_over_lem [] h d n p g l = omega arith
number_over_lem (a ∷ rest) h d n p g l =
    let s = size_some (d a) (g a) in
    let c = coord_of (d a) n (p a) in
    let q = point_over rest d (n / size_of (d a)) p in
    let below : n / size_of (d a) < cells_over rest d = div_below n (size_of (d a)) (cells_over rest d) s (omega arith) in
    let i = number_over_lem rest (and_right (all_over (λ b. not (same_axis a b)) rest) _ h) d (n / size_of (d a)) p g below in
    let j = put_other rest d q a c (and_left (all_over (λ b. not (same_axis a b)) rest) _ h) in
    let k = ap (step_of (d a)) (put_same q a c) ∙ step_coord (d a) n (p a) (g a) in
    rw (j, i, k) (div-add-mod' n (size_of (d a)))

pub step_below : (r : Option Range) (v : ℤ) → Holds r v → step_of r v < size_of r
step_below None v h = omega arith
step_below (Some r) v h =
    let e = above_one r.lo r.hi (omega (arith, ints)) in
    let f = above_pos (v -ℤ r.lo) (omega (arith, ints)) in
    omega (arith, ints)

coord_step : (r : Option Range) (m : ℕ) (v : ℤ) → Holds r v → coord_of r (m * size_of r + step_of r v) v ≡ v
coord_step None m v h = refl
coord_step (Some r) m v h =
    let f = above_pos (v -ℤ r.lo) (omega (arith, ints)) in
    let e = mod-mul-add m (width r) (above (v -ℤ r.lo)) (step_below (Some r) v h) in
    rw e (omega (arith, ints))

pub below_over : (list : List Axis) (d : Extents) (p : Coordinates) → Inside d p → number_over list d p < cells_over list d
below_over [] d p h = omega arith
below_over (a ∷ rest) d p h = mul-add-lt (number_over rest d p) (size_of (d a)) (step_of (d a) (p a)) (cells_over rest d) (below_over rest d p h) (step_below (d a) (p a) (h a))

pub point_over_lem : (list : List Axis) (d : Extents) (p : Coordinates) → Inside d p → (b : Axis) → point_over list d (number_over list d p) p b ≡ p b
point_over_lem [] d p h b = refl
point_over_lem (a ∷ rest) d p h b =
    let e = div-mul-add (number_over rest d p) (size_of (d a)) (step_of (d a) (p a)) (step_below (d a) (p a) (h a)) in
    rw (e, coord_step (d a) (number_over rest d p) (p a) (h a)) (go (same_axis a b) refl (point_over_lem rest d p h b))
  where
    go : (s : Bool) → same_axis a b ≡ s → point_over rest d (number_over rest d p) p b ≡ p b → cond s (p a) (point_over rest d (number_over rest d p) p b) ≡ p b
    go true q i = ap p (axis_of_lem a b q)
    go false q i = i

pub number_point : (d : Extents) (n : ℕ) (p : Coordinates) → ((a : Axis) → Ordered (d a)) → n < cells d → number_at d (point_at d n p) ≡ n
unfolding point_at number_at
number_point d n p g l = number_over_lem axes refl d n p g l

pub number_below : (d : Extents) (p : Coordinates) → Inside d p → number_at d p < cells d
unfolding number_at
number_below d p h = below_over axes d p h

pub point_number : (d : Extents) (p : Coordinates) → Inside d p → (b : Axis) → point_at d (number_at d p) p b ≡ p b
unfolding point_at number_at
point_number d p h b = point_over_lem axes d p h b
