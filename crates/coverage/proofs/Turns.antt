-- One turn of the loops that count a cell's number over the axes and that find its point again.
use Rattle.std.proofs.Common.{◌≡◌, ℕ, zero, suc, ◌+◌, ◌*◌, ◌/◌, ◌%◌, ◌<◌, ◌≤◌, Bool, true, false, cond, not, List, [], ◌∷◌, length, get_or, drop, ℤ, pos, ◌+ℤ◌, Some, None, Option, sym, refl, ap, ◌∙◌, ap₂, mul_assoc, mul_comm, mul-one, mul-add, arith}
use native.Mathlib.Nat.{mod-mod}
use borrow.Author.Tests.{not-true, clash}
use Rattle.std.proofs.lemmas.Nat.{mul-le}
use Rattle.std.proofs.lemmas.List.{at_drop_more, at_drop_all}
use Rattle.coverage.specs.declared.range.Range.{Range}
use Rattle.coverage.specs.declared.axis.Axis.{Axis}
use Rattle.coverage.specs.declared.axis.Axis.TheVariants.{X}
use Rattle.coverage.specs.Axes.{Extents, Coordinates, Inside, all_over, cells_over, coord_of, distinct, number_over, point_over, put, same_axis, size_of, step_of, width}
use Rattle.coverage.proofs.Bools.{and_left, and_right}
use Rattle.coverage.proofs.Points.{axis_of_lem}
use Rattle.coverage.proofs.Numbers.{below_over, step_below}

-- what the number's loop keeps: the number so far, the cells so far, and what is left to count
pub record Counted (list : List Axis) (d : Extents) (p : Coordinates) (i n stride : ℕ) : Type 0 where
  pub number : n + stride * number_over (drop i list) d p ≡ number_over list d p
  pub cells : stride * cells_over (drop i list) d ≡ cells_over list d
  pub below : n < stride

module _ (list : List Axis) (d : Extents) (p : Coordinates) (i : ℕ) (inside : Inside d p) (few : cells_over list d ≤ 65536) (here : i < length list) where
  -- the axis has room, and so have the cells up to it
  pub room : (n stride : ℕ) → Counted list d p i n stride →
      (size_of (d (get_or list i X)) ≤ 65536) × (stride * size_of (d (get_or list i X)) ≤ 65536)
  room n stride k =
      let a = get_or list i X in
      let w = size_of (d a) in
      let rest = cells_over (drop (i + 1) list) d in
      let F : List Axis → ℕ = λ l. cells_over l d in
      let e : cells_over (drop i list) d ≡ w * rest = at_drop_more F list i X here in
      let r : 1 ≤ rest = omega (arith, below_over (drop (i + 1) list) d p inside) in
      let t : stride * (w * rest) ≤ 65536 = omega (arith, k.cells, ap (λ m. stride * m) e) in
      let u : stride * w * 1 ≤ stride * w * rest = mul-le (stride * w) 1 (stride * w) rest (omega arith) r in
      let v : stride * w ≤ 65536 = omega (arith, u, t, mul-one (stride * w), mul_assoc stride w rest) in
      let x : 1 * w ≤ stride * w = mul-le 1 w stride w (omega (arith, k.below)) (omega arith) in
      (omega (arith, x, v), v)

  pub counts_on : (n stride : ℕ) → Counted list d p i n stride →
      Counted list d p (i + 1) (n + stride * step_of (d (get_or list i X)) (p (get_or list i X))) (stride * size_of (d (get_or list i X)))
  counts_on n stride k =
      let a = get_or list i X in
      let w = size_of (d a) in
      let s = step_of (d a) (p a) in
      let rest = cells_over (drop (i + 1) list) d in
      let more = number_over (drop (i + 1) list) d p in
      let F : List Axis → ℕ = λ l. cells_over l d in
      let G : List Axis → ℕ = λ l. number_over l d p in
      let e : cells_over (drop i list) d ≡ w * rest = at_drop_more F list i X here in
      let f : number_over (drop i list) d p ≡ more * w + s = at_drop_more G list i X here in
      let split : stride * (more * w + s) ≡ stride * w * more + stride * s =
      mul-add stride (more * w) s ∙ ap (λ m. m + stride * s) (ap (λ m. stride * m) (mul_comm more w) ∙ sym (mul_assoc stride w more)) in
      let next : stride * s + stride ≤ stride * w =
      omega (arith, mul-le stride (s + 1) stride w (omega arith) (omega (arith, step_below (d a) (p a) (inside a))), mul-add stride s 1, mul-one stride) in
      record {
        number = omega (arith, k.number, ap (λ m. stride * m) f, split);
        cells = mul_assoc stride w rest ∙ (ap (λ m. stride * m) (sym e) ∙ k.cells);
        below = omega (arith, k.below, next);
      }

-- at the end the number so far is the number
pub counted : (list : List Axis) (d : Extents) (p : Coordinates) (i n stride : ℕ) → length list ≤ i → Counted list d p i n stride →
    (n ≡ number_over list d p) × (n < cells_over list d)
counted list d p i n stride h k =
    let F : List Axis → ℕ = λ l. cells_over l d in
    let G : List Axis → ℕ = λ l. number_over l d p in
    let e : cells_over (drop i list) d ≡ 1 = at_drop_all F list i h in
    let f : number_over (drop i list) d p ≡ 0 = at_drop_all G list i h in
    let g : stride * cells_over (drop i list) d ≡ stride = ap (λ m. stride * m) e ∙ mul-one stride in
    let z : stride * number_over (drop i list) d p ≡ 0 = ap (λ m. stride * m) f ∙ omega arith in
    (omega (arith, k.number, z), omega (arith, k.cells, k.below, g))

-- ---- the point's loop

-- a coordinate is the same for a number and for its remainder
pub coord_rest : (r : Option Range) (n : ℕ) (v : ℤ) → coord_of r (n % size_of r) v ≡ coord_of r n v
coord_rest None n v = refl
coord_rest (Some r) n v = ap (λ k. r.lo +ℤ pos k) (mod-mod n (width r))

distinct_drop : (list : List Axis) (i : ℕ) → distinct list ≡ true → distinct (drop i list) ≡ true
distinct_drop list zero h = h
distinct_drop [] (suc i) h = h
distinct_drop (a ∷ rest) (suc i) h = distinct_drop rest i (and_right (all_over (λ b. not (same_axis a b)) rest) _ h)

-- a coordinate put in first, on an axis that the list has not, is the same as one put in last
over_put : (rest : List Axis) (d : Extents) (m : ℕ) (q q' : Coordinates) (a : Axis) (v : ℤ) → ((e : Axis) → q' e ≡ put q a v e) →
    all_over (λ b. not (same_axis a b)) rest ≡ true → (b : Axis) → point_over rest d m q' b ≡ put (point_over rest d m q) a v b
over_put [] d m q q' a v h t b = h b
over_put (e ∷ rest) d m q q' a v h t b =
    let other : same_axis a e ≡ false = not-true (same_axis a e) (and_left (not (same_axis a e)) _ t) in
    let same : q' e ≡ q e = h e ∙ ap (λ s. cond s v (q e)) other in
    let i = over_put rest d (m / size_of (d e)) q q' a v h (and_right (not (same_axis a e)) _ t) b in
    ap₂ (λ x y. cond (same_axis e b) (coord_of (d e) m x) y) same i ∙ go (same_axis e b) refl (same_axis a b) refl other
  where
    go : (s : Bool) → same_axis e b ≡ s → (u : Bool) → same_axis a b ≡ u → same_axis a e ≡ false →
        cond s (coord_of (d e) m (q e)) (cond u v (point_over rest d (m / size_of (d e)) q b)) ≡ cond u v (cond s (coord_of (d e) m (q e)) (point_over rest d (m / size_of (d e)) q b))
    go true x true y z = absurd (clash (sym z ∙ (ap (same_axis a) (axis_of_lem e b x) ∙ y)))
    go true x false y z = refl
    go false x true y z = refl
    go false x false y z = refl

pub point_turn : (list : List Axis) (d : Extents) (i n : ℕ) (q q' : Coordinates) → i < length list → distinct list ≡ true →
    ((e : Axis) → q' e ≡ put q (get_or list i X) (coord_of (d (get_or list i X)) (n % size_of (d (get_or list i X))) (q (get_or list i X))) e) →
    (b : Axis) → point_over (drop (i + 1) list) d (n / size_of (d (get_or list i X))) q' b ≡ point_over (drop i list) d n q b
point_turn list d i n q q' here once h b =
    let a = get_or list i X in
    let F : List Axis → ℤ = λ l. point_over l d n q b in
    let D : List Axis → Bool = distinct in
    let t : distinct (a ∷ drop (i + 1) list) ≡ true = sym (at_drop_more D list i X here) ∙ distinct_drop list i once in
    let g : (e : Axis) → q' e ≡ put q a (coord_of (d a) n (q a)) e = λ e. h e ∙ ap (λ v. put q a v e) (coord_rest (d a) n (q a)) in
    over_put (drop (i + 1) list) d (n / size_of (d a)) q q' a (coord_of (d a) n (q a)) g (and_left (all_over (λ c. not (same_axis a c)) (drop (i + 1) list)) _ t) b
    ∙ sym (at_drop_more F list i X here)
