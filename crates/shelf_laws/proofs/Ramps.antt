-- Ramps: what an axis adds is small, the span holds every cell, and both of its ends are reached.
use Rattle.std.proofs.Common.{◌≡◌, ℕ, ◌+◌, ◌*◌, ◌<◌, ◌≤◌, true, false, cond, not, ◌&&◌, List, [], ◌∷◌, length, get_or, drop, ℤ, pos, negsuc, ◌+ℤ◌, ◌*ℤ◌, ◌≤ℤ◌, Some, None, Ok, Err, Bool, Result, Option, sym, refl, ap, ◌∙◌, subst, ap₂, inl, inr, arith, w64, SFits, to_z, of_z}
use lib.Signed.{le_z, lt_z}
use Rattle.std.specs.Int.{int_min, int_max}
use Rattle.std.proofs.lemmas.List.{at_drop_more, at_drop_all}
use Rattle.std.proofs.lemmas.Int.{ints, clamps, to_z-of_z}
use Rattle.coverage.specs.declared.axis.Axis.{Axis}
use Rattle.coverage.specs.declared.axis.Axis.TheVariants.{X}
use Rattle.std.specs.Result.{is_ok, MatchResult}
use Rattle.coverage.specs.declared.kind.Kind.{Kind}
use Rattle.coverage.specs.declared.range.Range.{Range}
use Rattle.coverage.specs.declared.description.Description.{Description}
use Rattle.coverage.specs.Axes.{Domain, Coordinates, Extents, Holds, Inside, axes, cells, extents, same_z}
use Rattle.coverage.specs.Kinds.{Within, high, low}
use Rattle.coverage.specs.Limits.{axis_bounded, bounded, few, is_name}
use Rattle.coverage.proofs.Bools.{and_left, and_right, and_both, by_test}
use Rattle.coverage.proofs.Points.{each, inside_from}
use Rattle.coverage.proofs.Standing.{same_z_true, same_z_same}
use Rattle.shelf.specs.declared.fault.MakingFault.{MakingFault}
use Rattle.shelf.specs.declared.fault.MakingFault.TheVariants.{NoName, OutOfBounds, ManyCells}
use Rattle.shelf.specs.Meaning.{Coverage, answer_of, settled, settled_on}
use Rattle.shelf.specs.Laws.{LawfulCoverage}
use Rattle.shelf_laws.specs.Single.{AskedFor, CellsOf, MadeFixed, fixed_ok}
use Rattle.shelf_laws.specs.declared.ramp.Plane.{Plane}
use Rattle.shelf_laws.specs.RampMaking.{DescribedRamp}
use Rattle.shelf_laws.specs.Ramp.{AtCorner, AtEnd, Gradient, Slopes, gradient, SpanIsExact, all_mild, is_mild, is_near, least, most, ramp_cells, ramp_fault, ramp_kind, ramp_keeps, ramp_meaning, ramp_span, ramp_value, rise, rise_at, rises, sum_over}
use Rattle.shelf.proofs.Answering.{cond_none}
use Rattle.shelf_laws.proofs.Products.{Small, fits_64, mul_small}
use Rattle.coverage.proofs.Products.{mul_right}
use Rattle.shelf_laws.proofs.Makings.{Allowed, allowed_describable, answer_by}
use Rattle.shelf_laws.proofs.Singles.{fixed_by, fixed_lawful}

-- ---- small numbers

pub mild_small : (s : ℤ) → is_mild s ≡ true → Small 100 s
mild_small s h =
    let a = and_left (le_z (negsuc 99) s) _ h in
    let b = and_right (le_z (negsuc 99) s) _ h in
    record { from = omega (arith, ints); to = omega (arith, ints) }

pub near_small : (v : ℤ) → is_near v ≡ true → Small 100000000 v
near_small v h =
    let a = and_left (le_z (negsuc 99999999) v) _ h in
    let b = and_right (le_z (negsuc 99999999) v) _ h in
    record { from = omega (arith, ints); to = omega (arith, ints) }

-- a coordinate on an axis within its bounds
pub on_small : (r : Range) (v : ℤ) → axis_bounded (Some r) ≡ true → Holds (Some r) v → Small 1000000 v
on_small r v h k =
    let b = and_right (le_z r.lo r.hi) _ h in
    let c = and_left (le_z (negsuc 999999) r.lo) _ b in
    let d = and_right (le_z (negsuc 999999) r.lo) _ b in
    record { from = omega (arith, ints); to = omega (arith, ints) }

pub ends_hold : (r : Range) → axis_bounded (Some r) ≡ true → Holds (Some r) r.lo × Holds (Some r) r.hi
ends_hold r h = let a = and_left (le_z r.lo r.hi) _ h in ((omega (arith, ints), omega (arith, ints)), (omega (arith, ints), omega (arith, ints)))

pub rise_small : (r : Option Range) (s v : ℤ) → axis_bounded r ≡ true → Holds r v → is_mild s ≡ true → Small 100000000 (rise r s v)
rise_small None s v h k m = record { from = omega (arith, ints); to = omega (arith, ints) }
rise_small (Some r) s v h k m = mul_small s v (mild_small s m) (on_small r v h k)

pub rises_small : (r : Option Range) (s : ℤ) → axis_bounded r ≡ true → is_mild s ≡ true → Small 100000000 (rises r s).lo × Small 100000000 (rises r s).hi
rises_small None s h m = (record { from = omega (arith, ints); to = omega (arith, ints) }, record { from = omega (arith, ints); to = omega (arith, ints) })
rises_small (Some r) s h m =
    let e = ends_hold r h in
    let a = rise_small (Some r) s r.lo h e.0 m in
    let b = rise_small (Some r) s r.hi h e.1 m in
    go (s *ℤ r.lo) (s *ℤ r.hi) a b
  where
    go : (x y : ℤ) → Small 100000000 x → Small 100000000 y → Small 100000000 (int_min x y) × Small 100000000 (int_max x y)
    go x y a b = (record { from = omega (arith, ints, clamps); to = omega (arith, ints, clamps) }, record { from = omega (arith, ints, clamps); to = omega (arith, ints, clamps) })

-- ---- sums over the axes

sum_le : (f g : Axis → ℤ) → ((a : Axis) → f a ≤ℤ g a) → (list : List Axis) → sum_over f list ≤ℤ sum_over g list
sum_le f g h [] = omega (arith, ints)
sum_le f g h (a ∷ rest) = let i = sum_le f g h rest in let j = h a in omega (arith, ints)

sum_alike : (f g : Axis → ℤ) → ((a : Axis) → f a ≡ g a) → (list : List Axis) → sum_over f list ≡ sum_over g list
sum_alike f g h [] = refl
sum_alike f g h (a ∷ rest) = ap₂ (λ x y. x +ℤ y) (h a) (sum_alike f g h rest)

sum_small : (f : Axis → ℤ) → ((a : Axis) → Small 100000000 (f a)) → (list : List Axis) → Small (100000000 * length list) (sum_over f list)
sum_small f h [] = record { from = omega (arith, ints); to = omega (arith, ints) }
sum_small f h (a ∷ rest) = let i = sum_small f h rest in let j = h a in record { from = omega (arith, ints); to = omega (arith, ints) }

-- a sum from an offset stays far within 32 bits
pub total_small : (f : Axis → ℤ) (offset : ℤ) → ((a : Axis) → Small 100000000 (f a)) → is_near offset ≡ true → Small 2000000000 (offset +ℤ sum_over f axes)
total_small f offset h n = let i = sum_small f h axes in let j = near_small offset n in record { from = omega (arith, ints); to = omega (arith, ints) }

-- what a loop over the axes keeps: the sum so far, with what is to come, is the sum
pub record Summed (f : Axis → ℤ) (offset : ℤ) (list : List Axis) (i : ℕ) (v : ℤ) : Type 0 where
  pub total : v +ℤ sum_over f (drop i list) ≡ offset +ℤ sum_over f list
  pub small : Small (100000000 * (i + 1)) v

pub sum_starts : (f : Axis → ℤ) (offset : ℤ) (list : List Axis) → is_near offset ≡ true → Summed f offset list 0 offset
sum_starts f offset list n = let j = near_small offset n in record { total = refl; small = record { from = omega (arith, ints); to = omega (arith, ints) } }

pub sum_goes_on : (f : Axis → ℤ) (offset : ℤ) (list : List Axis) (i : ℕ) (v w : ℤ) → Summed f offset list i v → i < length list → w ≡ f (get_or list i X) → Small 100000000 w →
    Summed f offset list (i + 1) (v +ℤ w)
sum_goes_on f offset list i v w k h e s =
    let t = at_drop_more (sum_over f) list i X h in
    let q = k.total in
    let b = k.small in
    record { total = omega (arith, ints); small = record { from = omega (arith, ints); to = omega (arith, ints) } }

pub sum_ends : (f : Axis → ℤ) (offset : ℤ) (list : List Axis) (i : ℕ) (v : ℤ) → Summed f offset list i v → length list ≤ i → v ≡ offset +ℤ sum_over f list
sum_ends f offset list i v k h =
    let t = at_drop_all (sum_over f) list i h in
    let q = k.total in
    omega (arith, ints)

-- a turn of the loop, in 64 bits
pub sum_turn : (f : Axis → ℤ) (offset : ℤ) (i : ℕ) (v w x y : ℤ) → Summed f offset axes i v → i < length axes → w ≡ f (get_or axes i X) → Small 100000000 w → x ≡ v → y ≡ w →
    SFits w64 (x +ℤ y) × Summed f offset axes (i + 1) (to_z w64 (of_z w64 (x +ℤ y)))
sum_turn f offset i v w x y k h e s ex ey =
    let n = sum_goes_on f offset axes i v w k h e s in
    let q : x +ℤ y ≡ v +ℤ w = ap₂ (λ a b. a +ℤ b) ex ey in
    let fit : SFits w64 (x +ℤ y) = subst (SFits w64) (sym q) (fits_64 (100000000 * (i + 1 + 1)) (v +ℤ w) (omega arith) n.small) in
    (fit, subst (Summed f offset axes (i + 1)) (sym (to_z-of_z w64 (x +ℤ y) fit ∙ q)) n)

-- ---- the span is exact

-- what an axis adds lies between the least and the most
rise_between : (r : Option Range) (s v : ℤ) → Holds r v → ((rises r s).lo ≤ℤ rise r s v) × (rise r s v ≤ℤ (rises r s).hi)
rise_between None s v h = (omega (arith, ints), omega (arith, ints))
rise_between (Some r) s v h = let b = mul_right r.lo r.hi s v h.0 h.1 in (b.least, b.most)

-- an end of an axis where it adds as much as is asked
pub record End (r : Option Range) (s w : ℤ) : Type 0 where
  pub place : ℤ
  pub at_end_holds : AtEnd r place
  pub on : Holds r place
  pub adds : rise r s place ≡ w

low_end : (r : Option Range) (s : ℤ) → axis_bounded r ≡ true → End r s (rises r s).lo
low_end None s h = record { place = pos 0; at_end_holds = tt; on = tt; adds = refl }
low_end (Some r) s h =
    let e = ends_hold r h in
    by_test (lt_z (s *ℤ r.hi) (s *ℤ r.lo))
    (λ t. record { place = r.hi; at_end_holds = inr refl; on = e.1; adds = sym (ap (λ b. cond b (s *ℤ r.hi) (s *ℤ r.lo)) t) })
    (λ t. record { place = r.lo; at_end_holds = inl refl; on = e.0; adds = sym (ap (λ b. cond b (s *ℤ r.hi) (s *ℤ r.lo)) t) })

high_end : (r : Option Range) (s : ℤ) → axis_bounded r ≡ true → End r s (rises r s).hi
high_end None s h = record { place = pos 0; at_end_holds = tt; on = tt; adds = refl }
high_end (Some r) s h =
    let e = ends_hold r h in
    by_test (lt_z (s *ℤ r.hi) (s *ℤ r.lo))
    (λ t. record { place = r.lo; at_end_holds = inl refl; on = e.0; adds = sym (ap (λ b. cond b (s *ℤ r.lo) (s *ℤ r.hi)) t) })
    (λ t. record { place = r.hi; at_end_holds = inr refl; on = e.1; adds = sym (ap (λ b. cond b (s *ℤ r.lo) (s *ℤ r.hi)) t) })

at_corner : (g : Gradient) (offset : ℤ) (d : Extents) (w : Axis → ℤ) → ((a : Axis) → End (d a) (g a) (w a)) → AtCorner g offset d (offset +ℤ sum_over w axes)
at_corner g offset d w h = record {
  corner = λ a. (h a).place;
  at_ends = λ a. (h a).at_end_holds;
  inside = λ a. (h a).on;
  reached = ap (λ v. offset +ℤ v) (sum_alike (λ a. rise (d a) (g a) (h a).place) w (λ a. (h a).adds) axes);
}

pub each_bounded : (d : Extents) → bounded d ≡ true → (a : Axis) → axis_bounded (d a) ≡ true
each_bounded d h a = each (λ b. axis_bounded (d b)) (and_right _ _ h) a

pub each_mild : (g : Gradient) → all_mild g ≡ true → (a : Axis) → is_mild (g a) ≡ true
each_mild g h a = each (λ b. is_mild (g b)) h a

pub span_holds : (g : Gradient) (offset : ℤ) (d : Extents) (p : Coordinates) → Inside d p →
    ((ramp_span g offset d).lo ≤ℤ ramp_value g offset d p) × (ramp_value g offset d p ≤ℤ (ramp_span g offset d).hi)
span_holds g offset d p h =
    let lo = sum_le (least d g) (rise_at d g p) (λ a. (rise_between (d a) (g a) (p a) (h a)).0) axes in
    let hi = sum_le (rise_at d g p) (most d g) (λ a. (rise_between (d a) (g a) (p a) (h a)).1) axes in
    (go _ _ lo, go _ _ hi)
  where
    go : (x y : ℤ) → x ≤ℤ y → (offset +ℤ x) ≤ℤ (offset +ℤ y)
    go x y k = omega (arith, ints)

pub span_exact : (g : Gradient) (offset : ℤ) (d : Extents) → bounded d ≡ true → SpanIsExact g offset d
span_exact g offset d h = record {
  every_cell = span_holds g offset d;
  lowest_reached = at_corner g offset d (least d g) (λ a. low_end (d a) (g a) (each_bounded d h a));
  highest_reached = at_corner g offset d (most d g) (λ a. high_end (d a) (g a) (each_bounded d h a));
}

-- ---- the coverage

settled_rise : (r : Option Range) (s v : ℤ) → rise r s (settled_on r v) ≡ rise r s v
settled_rise None s v = refl
settled_rise (Some r) s v = refl

-- a point settled on a domain has the same cell
pub settled_value : (g : Gradient) (offset : ℤ) (d : Extents) (p : Coordinates) → ramp_value g offset d (settled d p) ≡ ramp_value g offset d p
settled_value g offset d p = ap (λ v. offset +ℤ v) (sum_alike (rise_at d g (settled d p)) (rise_at d g p) (λ a. settled_rise (d a) (g a) (p a)) axes)

-- what holds of a ramp that has a coverage
pub record Sloped (a : Description) (g : Gradient) (offset : ℤ) : Type 0 where
  pub fixed : fixed_ok (Some a) ≡ true
  pub mild : all_mild g ≡ true
  pub near : is_near offset ≡ true
  pub lowest : low a.kind ≡ (ramp_span g offset (extents a.domain)).lo
  pub highest : high a.kind ≡ (ramp_span g offset (extents a.domain)).hi

pub sloped_from : (a : Description) (g : Gradient) (offset : ℤ) → ramp_keeps g offset a ≡ true → Sloped a g offset
sloped_from a g offset kept =
    let h = and_right (fixed_ok (Some a)) _ kept in
    let i = and_right (all_mild g) _ h in
    let j = and_right (is_near offset) _ i in
    record {
      fixed = and_left (fixed_ok (Some a)) _ kept;
      mild = and_left (all_mild g) _ h;
      near = and_left (is_near offset) _ i;
      lowest = same_z_true _ _ (and_left (same_z (low a.kind) (ramp_span g offset (extents a.domain)).lo) _ j);
      highest = same_z_true _ _ (and_right (same_z (low a.kind) (ramp_span g offset (extents a.domain)).lo) _ j);
    }

pub ramp_lawful : (a : Description) (g : Gradient) (offset : ℤ) → ramp_keeps g offset a ≡ true → LawfulCoverage (record { about = a; cell = ramp_cells g offset (extents a.domain) })
ramp_lawful a g offset h =
    let s = sloped_from a g offset h in
    fixed_lawful a (ramp_cells g offset) s.fixed
    (λ p e.
    let d = extents a.domain in
    let b = span_holds g offset d p (inside_from d p e) in
    subst (λ v. Within a.kind (Some v)) (sym (settled_value g offset d p))
    (subst (λ v. v ≤ℤ ramp_value g offset d p) (sym s.lowest) b.0, subst (λ v. ramp_value g offset d p ≤ℤ v) (sym s.highest) b.1))

pub ramp_fixed : (a : Description) (g : Gradient) (offset : ℤ) → ramp_keeps g offset a ≡ true → a.receives ≡ false
ramp_fixed a g offset h = fixed_by a (sloped_from a g offset h).fixed

-- every cell inside is small
pub value_small : (g : Gradient) (offset : ℤ) (d : Extents) (p : Coordinates) → bounded d ≡ true → all_mild g ≡ true → is_near offset ≡ true → Inside d p → Small 2000000000 (ramp_value g offset d p)
value_small g offset d p b m n h = total_small (rise_at d g p) offset (λ a. rise_small (d a) (g a) (p a) (each_bounded d b a) (h a) (each_mild g m a)) n

-- ---- making

-- what holds of an allowed ramp
pub record AllowedRamp (name : List ℕ) (d : Extents) (g : Gradient) (offset : ℤ) : Type 0 where
  pub named : is_name name ≡ true
  pub axes_bounded : bounded d ≡ true
  pub mild : all_mild g ≡ true
  pub near : is_near offset ≡ true
  pub cells_few : few d ≡ true

pub ramp_allowed : (name : List ℕ) (d : Extents) (g : Gradient) (offset : ℤ) → ramp_fault name d g offset ≡ None → AllowedRamp name d g offset
ramp_allowed name d g offset e =
    let a = cond_none (is_name name) _ NoName e in
    let b = cond_none (bounded d && (all_mild g && is_near offset)) _ OutOfBounds a.1 in
    let c = cond_none (few d) None ManyCells b.1 in
    let s = and_right (bounded d) _ b.0 in
    record {
      named = a.0;
      axes_bounded = and_left (bounded d) _ b.0;
      mild = and_left (all_mild g) _ s;
      near = and_right (all_mild g) _ s;
      cells_few = c.0;
    }

-- the span has its ends in order, far within 32 bits
span_allowed : (name : List ℕ) (d : Extents) (g : Gradient) (offset : ℤ) → AllowedRamp name d g offset → Allowed name d (ramp_kind g offset d) (cells d)
span_allowed name d g offset h =
    let small = λ (a : Axis). rises_small (d a) (g a) (each_bounded d h.axes_bounded a) (each_mild g h.mild a) in
    let lo = total_small (least d g) offset (λ a. (small a).0) h.near in
    let hi = total_small (most d g) offset (λ a. (small a).1) h.near in
    let corner = (span_exact g offset d h.axes_bounded).lowest_reached in
    let in_order = span_holds g offset d corner.corner corner.inside in
    let k = ends_narrow (ramp_span g offset d).lo (ramp_span g offset d).hi (ramp_value g offset d corner.corner) in_order.0 in_order.1 lo hi in
    record {
      named = h.named;
      axes_bounded = h.axes_bounded;
      kind_ordered_holds = k.0;
      kind_narrow_holds = and_both _ _ k.1 k.2;
      cells_few = h.cells_few;
      long = refl;
    }
  where
    test : (x y : ℤ) → x ≤ℤ y → le_z x y ≡ true
    test x y h = grind (arith, ints)

    ends_narrow : (x y v : ℤ) → x ≤ℤ v → v ≤ℤ y → Small 2000000000 x → Small 2000000000 y → (le_z x y ≡ true) × (le_z (negsuc 2147483646) x ≡ true) × (le_z y (pos 2147483647) ≡ true)
    ends_narrow x y v p q a b = (test x y (omega (arith, ints)), test (negsuc 2147483646) x (omega (arith, ints)), test y (pos 2147483647) (omega (arith, ints)))

-- what an allowed making describes, the ramp keeps
pub ramp_kept : (name : List ℕ) (d : Domain) (g : Gradient) (offset : ℤ) (a : Description) → AllowedRamp name (extents d) g offset →
    AskedFor name d (ramp_kind g offset (extents d)) false a → ramp_keeps g offset a ≡ true
ramp_kept name d g offset a h s =
    let k = ramp_kind g offset (extents d) in
    let span : (f : Range → ℤ) → f (ramp_span g offset (extents d)) ≡ f (ramp_span g offset (extents a.domain)) = λ f. ap (λ x. f (ramp_span g offset (extents x))) (sym s.domained) in
    and_both (fixed_ok (Some a)) _ (and_both _ _ (allowed_describable name d k (cells (extents d)) a (span_allowed name (extents d) g offset h) s.named s.domained s.kinded) (ap not s.marked))
    (and_both _ _ h.mild (and_both _ _ h.near
    (and_both _ _ (same_z_same _ _ (ap low s.kinded ∙ span (λ r. r.lo))) (same_z_same _ _ (ap high s.kinded ∙ span (λ r. r.hi))))))

-- the refusal of a ramp by the outcomes of its tests
pub ramp_fault_by : (name : List ℕ) (d : Extents) (g : Gradient) (offset : ℤ) (x y z : Bool) → is_name name ≡ x → (bounded d && (all_mild g && is_near offset)) ≡ y → few d ≡ z →
    ramp_fault name d g offset ≡ cond x (cond y (cond z None (Some ManyCells)) (Some OutOfBounds)) (Some NoName)
ramp_fault_by name d g offset x y z ex ey ez =
    let some : MakingFault → Option MakingFault = λ f. Some f in
    let by : Bool → Bool → Bool → Option MakingFault = λ a b c. cond a (cond b (cond c None (some ManyCells)) (some OutOfBounds)) (some NoName) in
    ap (λ a. by a (bounded d && (all_mild g && is_near offset)) (few d)) ex ∙ (ap (λ b. by x b (few d)) ey ∙ ap (λ c. by x y c) ez)

pub ramp_refused : (name : List ℕ) (d : Domain) (s : Slopes) (offset : ℤ) (r : Result (Description × Plane) MakingFault) (f : MakingFault) → ramp_fault name (extents d) (gradient s) offset ≡ Some f → r ≡ Err f →
    DescribedRamp (ramp_fault name (extents d) (gradient s) offset) name d s offset r
ramp_refused name d s offset r f e h = subst (λ x. DescribedRamp x name d s offset r) (sym e) h

pub ramp_described : (name : List ℕ) (d : Domain) (s : Slopes) (offset : ℤ) (a : Description) (p : Plane) → ramp_fault name (extents d) (gradient s) offset ≡ None →
    AskedFor name d (ramp_kind (gradient s) offset (extents d)) false a → p.slopes ≡ s → p.offset ≡ offset → DescribedRamp (ramp_fault name (extents d) (gradient s) offset) name d s offset (Ok (a, p))
ramp_described name d s offset a p e asked u v = subst (λ f. DescribedRamp f name d s offset (Ok (a, p))) (sym e) (a, p, refl, asked, u, v)

pub ramp_answer : (P : Description × Plane → Type 0) (f : Option MakingFault) (name : List ℕ) (d : Domain) (s : Slopes) (offset : ℤ) (r : Result (Description × Plane) MakingFault) (t : Result (Unit {0}) MakingFault) →
    DescribedRamp f name d s offset r → is_ok t ≡ is_ok r → MatchResult r P (λ e. t ≡ Err e) → t ≡ answer_of f
ramp_answer P None name d s offset r t h v m = answer_by P None r t (λ _. ap is_ok h.2) (λ g e. cc) v m
ramp_answer P (Some f) name d s offset r t h v m =
    answer_by P (Some f) r t (λ e. cc) (λ g e. let same : f ≡ g = cc in h ∙ (let err : MakingFault → Result (Description × Plane) MakingFault = λ x. Err x in ap err same)) v m

ok_same : (x y : Description × Plane) → ◌≡◌ {A = Result (Description × Plane) MakingFault} (Ok x) (Ok y) → x ≡ y
ok_same x y e = cc

-- an allowed making keeps the laws of the ramp, and makes what was asked for
pub ramp_made : (name : List ℕ) (d : Domain) (s : Slopes) (offset : ℤ) (a : Description) (p : Plane) → DescribedRamp (ramp_fault name (extents d) (gradient s) offset) name d s offset (Ok (a, p)) →
    (ramp_keeps (gradient p.slopes) p.offset a ≡ true)
    × MadeFixed (ramp_fault name (extents d) (gradient s) offset) name d (ramp_kind (gradient s) offset (extents d)) (ramp_cells (gradient s) offset) (ramp_meaning (Some a) (gradient p.slopes) p.offset)
ramp_made name d s offset a p h = go (ramp_fault name (extents d) (gradient s) offset) refl h
  where
    go : (f : Option MakingFault) → ramp_fault name (extents d) (gradient s) offset ≡ f → DescribedRamp f name d s offset (Ok (a, p)) →
        (ramp_keeps (gradient p.slopes) p.offset a ≡ true) × MadeFixed f name d (ramp_kind (gradient s) offset (extents d)) (ramp_cells (gradient s) offset) (ramp_meaning (Some a) (gradient p.slopes) p.offset)
    go None is h =
        let same = ok_same (a, p) (h.0, h.1) h.2 in
        let about : a ≡ h.0 = ap (λ x. x.0) same in
        let plane : p ≡ h.1 = ap (λ x. x.1) same in
        let g : gradient p.slopes ≡ gradient s = ap gradient (ap (λ (x : Plane). x.slopes) plane ∙ h.4) in
        let o : p.offset ≡ offset = ap (λ (x : Plane). x.offset) plane ∙ h.5 in
        let asked = subst (AskedFor name d (ramp_kind (gradient s) offset (extents d)) false) (sym about) h.3 in
        let make : Gradient → ℤ → Domain → List Coverage = λ x v e. (record { about = a; cell = ramp_cells x v (extents e) }) ∷ [] in (
          ap₂ (λ x v. ramp_keeps x v a) g o ∙ ramp_kept name d (gradient s) offset a (ramp_allowed name (extents d) (gradient s) offset is) asked,
          record { about = a; asked = asked; only = ap₂ (λ x v. make x v a.domain) g o ∙ ap (make (gradient s) offset) asked.domained },
        )
    go (Some f) is h = cc

-- a refused one makes no coverage
pub ramp_unmade : (f : Option MakingFault) (name : List ℕ) (d : Domain) (s : Slopes) (offset : ℤ) (g : MakingFault) (k : Kind) (cell : CellsOf) → DescribedRamp f name d s offset (Err g) → MadeFixed f name d k cell []
ramp_unmade None name d s offset g k cell h = let e = h.2 in cc
ramp_unmade (Some f) name d s offset g k cell h = refl
