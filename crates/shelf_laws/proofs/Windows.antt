-- The window: its domain, its strips by those below, its calls, and its laws.
use Rattle.std.proofs.Common.{◌≡◌, ℕ, ◌<◌, ◌≤◌, Bool, true, false, cond, not, ◌&&◌, ◌||◌, List, [], ◌∷◌, get_or, ℤ, pos, negsuc, ◌+ℤ◌, ◌-ℤ◌, ◌≤ℤ◌, is_some, Some, None, Option, sym, refl, ap, ◌∙◌, subst, ap₂, arith, le-leb}
use mathlib.Core.Path.{fun_ext}
use borrow.Author.Tests.{clash}
use lib.Signed.{le_z}
use Rattle.std.proofs.lemmas.Nat.{mul-le}
use Rattle.std.proofs.lemmas.Int.{ints}
use Rattle.std.specs.List.{slice_get}
use Rattle.coverage.specs.declared.axis.Axis.{Axis}
use Rattle.coverage.specs.declared.axis.Axis.TheVariants.{X, Y, T}
use Rattle.coverage.specs.declared.range.Range.{Range}
use Rattle.coverage.specs.Axes.{Domain, Coordinates, Extents, Holds, Inside, Ordered, above, across, axes, cells, cells_over, extents, inside_b, is_none, lowest_on, on_axis, same_axis, same_z, size_of, step_of}
use Rattle.coverage.specs.Kinds.{Within}
use Rattle.coverage.specs.Limits.{axis_bounded, bounded, few, is_name, kind_narrow, kind_ordered, name_bytes}
use Rattle.coverage.specs.Strips.{in_strip, strip_at, strip_first, strip_point, strips}
use Rattle.coverage.proofs.Bools.{and_left, and_right, and_both, by_test}
use Rattle.coverage.proofs.Points.{all_over_lem, all_same, each, each_over, inside_from, inside_test, member}
use Rattle.coverage.proofs.Numbers.{below_over}
use Rattle.coverage.proofs.Standing.{alike, in_own_strip, same_z_true, strip_first_holds}
use Rattle.coverage.proofs.Bounds.{bounded_ordered, describable_by, few_cells}
use Rattle.shelf.specs.Meaning.{Coverage, cell_at, domain_of, put_strip, settled, settled_on, strip_there}
use Rattle.shelf.specs.Laws.{Lawful, LawfulCoverage}
use Rattle.shelf.proofs.Single.{none_lawful, one_lawful}
use Rattle.shelf_laws.specs.declared.cut.Cut.{Cut}
use Rattle.shelf_laws.specs.Window.{axis_fits, cut_about, cut_domain, cut_extents, cut_fits, cut_on, cut_range, seen, seen_on, strip_below, window_meaning}

-- ---- one axis

on_none : (r q : Option Range) → is_none (cut_on r q) ≡ is_none r
on_none None q = refl
on_none (Some r) None = refl
on_none (Some r) (Some q) = refl

on_holds : (r q : Option Range) (v : ℤ) → axis_fits r q ≡ true → Holds (cut_on r q) v → Holds r v
on_holds None q v t h = tt
on_holds (Some r) None v t h = h
on_holds (Some r) (Some q) v t h =
    let a = and_right (le_z q.lo q.hi) _ t in
    let b = and_left (le_z r.lo q.lo) _ a in
    let c = and_right (le_z r.lo q.lo) _ a in
    (omega (arith, ints), omega (arith, ints))

on_bounded : (r q : Option Range) → axis_fits r q ≡ true → axis_bounded r ≡ true → axis_bounded (cut_on r q) ≡ true
on_bounded None q t h = refl
on_bounded (Some r) None t h = h
on_bounded (Some r) (Some q) t h =
    let o = and_left (le_z q.lo q.hi) _ t in
    let a = and_right (le_z q.lo q.hi) _ t in
    let b = and_left (le_z r.lo q.lo) _ a in
    let c = and_right (le_z r.lo q.lo) _ a in
    let l = and_left (le_z (negsuc 999999) r.lo) _ (and_right (le_z r.lo r.hi) _ h) in
    let u = and_right (le_z (negsuc 999999) r.lo) _ (and_right (le_z r.lo r.hi) _ h) in
    let x : le_z (negsuc 999999) q.lo ≡ true = grind (arith, ints) in
    let y : le_z q.hi (pos 1000000) ≡ true = grind (arith, ints) in
    and_both (le_z q.lo q.hi) _ o (and_both (le_z (negsuc 999999) q.lo) _ x y)

above_mono : (x y : ℤ) → x ≤ℤ y → above x ≤ above y
above_mono (pos m) (pos n) h = omega (arith, ints)
above_mono (pos m) (negsuc n) h = absurd (omega (arith, ints))
above_mono (negsuc m) (pos n) h = omega arith
above_mono (negsuc m) (negsuc n) h = omega arith

on_size : (r q : Option Range) → axis_fits r q ≡ true → size_of (cut_on r q) ≤ size_of r
on_size None q t = omega arith
on_size (Some r) None t = omega arith
on_size (Some r) (Some q) t =
    let a = and_right (le_z q.lo q.hi) _ t in
    let b = and_left (le_z r.lo q.lo) _ a in
    let c = and_right (le_z r.lo q.lo) _ a in
    above_mono ((q.hi -ℤ q.lo) +ℤ pos 1) ((r.hi -ℤ r.lo) +ℤ pos 1) (omega (arith, ints))

-- ---- the cut domain

domain_extents : (d : Domain) (c : Cut) (a : Axis) → extents (cut_domain d c) a ≡ cut_extents (extents d) c a
domain_extents d c X = refl
domain_extents d c Y = refl
domain_extents d c T = refl

-- the extents of a cut domain are the domain's extents cut
pub cut_is : (d : Domain) (c : Cut) → extents (cut_domain d c) ≡ cut_extents (extents d) c
cut_is d c = fun_ext (domain_extents d c)

over_few : (list : List Axis) (d e : Extents) → ((a : Axis) → size_of (e a) ≤ size_of (d a)) → cells_over list e ≤ cells_over list d
over_few [] d e h = omega arith
over_few (a ∷ rest) d e h = mul-le (size_of (e a)) (cells_over rest e) (size_of (d a)) (cells_over rest d) (h a) (over_few rest d e h)

pub x_uncut : (r : Option Range) → cut_on r None ≡ r
x_uncut None = refl
x_uncut (Some r) = refl

module _ (d : Extents) (cut : Cut) (fit : cut_fits d cut ≡ true) where
  fits_on : (a : Axis) → axis_fits (d a) (cut_range cut a) ≡ true
  fits_on = each (λ a. axis_fits (d a) (cut_range cut a)) fit

  -- a point inside the cut is inside the whole
  pub cut_inside : (p : Coordinates) → Inside (cut_extents d cut) p → Inside d p
  cut_inside p h a = on_holds (d a) (cut_range cut a) (p a) (fits_on a) (h a)

  pub cut_bounded : bounded d ≡ true → bounded (cut_extents d cut) ≡ true
  cut_bounded h =
      and_both (not (is_none (cut_extents d cut X))) _ (ap not (on_none (d X) (cut_range cut X)) ∙ and_left (not (is_none (d X))) _ h)
      (all_over_lem axes (λ a. axis_bounded (cut_extents d cut a)) (λ a. on_bounded (d a) (cut_range cut a) (fits_on a) (each (λ b. axis_bounded (d b)) (and_right (not (is_none (d X))) _ h) a)))

  pub cut_few : few d ≡ true → few (cut_extents d cut) ≡ true
  cut_few h = le-leb _ _ (let s = over_few axes d (cut_extents d cut) (λ a. on_size (d a) (cut_range cut a) (fits_on a)) in let k = few_cells d h in let q : cells (cut_extents d cut) ≤ 65536 = omega arith in q)

-- a point settled on the cut is the point settled on the whole
on_settled : (r q : Option Range) (v : ℤ) → settled_on (cut_on r q) v ≡ settled_on r v
on_settled None q v = refl
on_settled (Some r) None v = refl
on_settled (Some r) (Some q) v = refl

pub cut_settled : (d : Extents) (cut : Cut) (p : Coordinates) → settled (cut_extents d cut) p ≡ settled d p
cut_settled d cut p = fun_ext (λ a. on_settled (d a) (cut_range cut a) (p a))

settled_same : (r : Option Range) (v w : ℤ) → (is_none r || same_z v w) ≡ true → settled_on r v ≡ settled_on r w
settled_same None v w h = refl
settled_same (Some r) v w h = same_z_true v w h

same_left : (r : Option Range) (u v w : ℤ) → (is_none r || same_z u v) ≡ true → (is_none r || same_z w u) ≡ (is_none r || same_z w v)
same_left None u v w h = refl
same_left (Some r) u v w h = ap (same_z w) (same_z_true u v h)

-- ---- strips

module _ (d : Extents) (cut : Cut) (fit : cut_fits d cut ≡ true) (good : (a : Axis) → Ordered (d a)) (part_good : (a : Axis) → Ordered (cut_extents d cut a)) (n : ℕ) (there : n < strips (cut_extents d cut)) where
  abbrev whole_strip : ℕ
  whole_strip = strip_below d (cut_extents d cut) n

  first_inside : Inside d (strip_first (cut_extents d cut) n)
  first_inside = cut_inside d cut fit (strip_first (cut_extents d cut) n) (strip_first_holds (cut_extents d cut) part_good n there).0

  -- the strip below is there
  pub below_there : strip_below d (cut_extents d cut) n < strips d
  unfolding strip_at
  below_there = below_over across d (strip_first (cut_extents d cut) n) first_inside

  -- across x, the two strips stand at the same place
  stands_same : (a : Axis) → member a across ≡ true → (is_none (d a) || same_z (strip_point (cut_extents d cut) n a) (strip_point d whole_strip a)) ≡ true
  stands_same a m = go (same_axis X a) refl (each_over across (alike d (strip_first (cut_extents d cut) n) (strip_point d whole_strip)) (and_right (on_axis (d X) (strip_first (cut_extents d cut) n X)) _ (in_own_strip d good (strip_first (cut_extents d cut) n) first_inside)) a m)
    where
      off_x : (b : Axis) → member b across ≡ true → same_axis X b ≡ true → ⊥
      off_x X m e = clash m
      off_x Y m e = clash e
      off_x T m e = clash e

      go : (s : Bool) → same_axis X a ≡ s → (is_none (d a) || same_z (cond s (lowest_on (cut_extents d cut X)) (strip_point (cut_extents d cut) n a)) (strip_point d whole_strip a)) ≡ true →
          (is_none (d a) || same_z (strip_point (cut_extents d cut) n a) (strip_point d whole_strip a)) ≡ true
      go true e h = absurd (off_x a m e)
      go false e h = h

  -- a point lies in the window's strip just where it lies in the strip below
  pub strip_same : (p : Coordinates) → in_strip (cut_extents d cut) n p ≡ in_strip d whole_strip p
  strip_same p =
      ap₂ (λ x y. x && y) (ap (λ r. on_axis r (p X)) (x_uncut (d X)))
      (all_same across (alike (cut_extents d cut) p (strip_point (cut_extents d cut) n)) (alike d p (strip_point d whole_strip))
      (λ a m. ap (λ b. b || same_z (p a) (strip_point (cut_extents d cut) n a)) (on_none (d a) (cut_range cut a)) ∙ same_left (d a) (strip_point (cut_extents d cut) n a) (strip_point d whole_strip a) (p a) (stands_same a m)))

  -- and the first point of both is the same, as far as the domain can tell
  pub first_same : settled (cut_extents d cut) (strip_first (cut_extents d cut) n) ≡ settled d (strip_first d whole_strip)
  first_same = cut_settled d cut (strip_first (cut_extents d cut) n) ∙ fun_ext (λ a. go a (same_axis X a) refl)
    where
      across_x : (b : Axis) → same_axis X b ≡ false → member b across ≡ true
      across_x X e = absurd (clash (sym e))
      across_x Y e = refl
      across_x T e = refl

      go : (a : Axis) (s : Bool) → same_axis X a ≡ s → settled_on (d a) (cond s (lowest_on (cut_extents d cut X)) (strip_point (cut_extents d cut) n a)) ≡ settled_on (d a) (cond s (lowest_on (d X)) (strip_point d whole_strip a))
      go a true e = ap (λ r. settled_on (d a) (lowest_on r)) (x_uncut (d X))
      go a false e = settled_same (d a) (strip_point (cut_extents d cut) n a) (strip_point d whole_strip a) (stands_same a (across_x a e))

-- ---- what is seen of a coverage

module _ (k : Coverage) (cut : Cut) (law : LawfulCoverage k) (fit : cut_fits (domain_of k) cut ≡ true) where
  cut_domain_holds : domain_of (seen k cut) ≡ cut_extents (domain_of k) cut
  cut_domain_holds = cut_is k.about.domain cut

  whole_good : (a : Axis) → Ordered (domain_of k a)
  whole_good = bounded_ordered (domain_of k) (describable_by k.about law.described).axes_bounded

  part_bounded : bounded (cut_extents (domain_of k) cut) ≡ true
  part_bounded = cut_bounded (domain_of k) cut fit (describable_by k.about law.described).axes_bounded

  part_good : (a : Axis) → Ordered (cut_extents (domain_of k) cut a)
  part_good = bounded_ordered (cut_extents (domain_of k) cut) part_bounded

  -- a cell seen is the cell
  pub seen_cell : (p : Coordinates) → cell_at (seen k cut) p ≡ cell_at k p
  seen_cell p = ap (λ e. k.cell (settled e p)) cut_domain_holds ∙ ap k.cell (cut_settled (domain_of k) cut p)

  -- a point inside the window is inside the coverage
  pub seen_inside : (p : Coordinates) → inside_b (domain_of (seen k cut)) p ≡ true → inside_b (domain_of k) p ≡ true
  seen_inside p e = inside_test (domain_of k) p (cut_inside (domain_of k) cut fit p (inside_from (cut_extents (domain_of k) cut) p (ap (λ x. inside_b x p) (sym cut_domain_holds) ∙ e)))

  module _ (n : ℕ) (there : n < strips (domain_of (seen k cut))) where
    part_there : n < strips (cut_extents (domain_of k) cut)
    part_there = subst (λ (x : Extents). n < strips x) cut_domain_holds there

    below_is : strip_below (domain_of k) (domain_of (seen k cut)) n ≡ strip_below (domain_of k) (cut_extents (domain_of k) cut) n
    below_is = ap (λ x. strip_below (domain_of k) x n) cut_domain_holds

    -- the strip below is there
    pub seen_below : strip_below (domain_of k) (domain_of (seen k cut)) n < strips (domain_of k)
    seen_below = subst (λ m. m < strips (domain_of k)) (sym below_is) (below_there (domain_of k) cut fit whole_good part_good n part_there)

    pub seen_strip : (p : Coordinates) → in_strip (domain_of (seen k cut)) n p ≡ in_strip (domain_of k) (strip_below (domain_of k) (domain_of (seen k cut)) n) p
    seen_strip p = ap (λ x. in_strip x n p) cut_domain_holds ∙ (strip_same (domain_of k) cut fit whole_good part_good n part_there p ∙ ap (λ m. in_strip (domain_of k) m p) (sym below_is))

    -- a strip has come to the window just where it has come below
    pub seen_there : strip_there (seen k cut) n ≡ strip_there k (strip_below (domain_of k) (domain_of (seen k cut)) n)
    seen_there =
        ap (λ x. is_some (k.cell (settled x (strip_first x n)))) cut_domain_holds
        ∙ (ap (λ q. is_some (k.cell q)) (first_same (domain_of k) cut fit whole_good part_good n part_there)
        ∙ ap (λ m. is_some (k.cell (settled (domain_of k) (strip_first (domain_of k) m)))) (sym below_is))

    -- a strip put through the window is put below
    pub seen_put : (cs : List ℤ) → put_strip (seen k cut) n cs ≡ seen (put_strip k (strip_below (domain_of k) (domain_of (seen k cut)) n) cs) cut
    seen_put cs =
        let make : (Coordinates → Option ℤ) → Coverage = λ f. record { about = cut_about k.about cut; cell = f } in
        let some : ℤ → Option ℤ = λ v. Some v in
        ap make (fun_ext (λ p. ap₂ (λ b r. cond b (some (get_or cs (step_of r (p X)) (pos 0))) (k.cell p)) (seen_strip p) (x_uncut (domain_of k X))))

  pub seen_lawful : LawfulCoverage (seen k cut)
  seen_lawful =
      let l = describable_by k.about law.described in
      record {
        described =
            and_both (is_name (name_bytes k.about.name)) _ l.named
            (and_both (bounded (domain_of (seen k cut))) _ (ap bounded cut_domain_holds ∙ part_bounded)
            (and_both (kind_ordered k.about.kind) _ l.kind_ordered_holds
            (and_both (kind_narrow k.about.kind) _ l.kind_narrow_holds (ap few cut_domain_holds ∙ cut_few (domain_of k) cut fit l.cells_few))));
        cells_fit = λ p e. subst (Within k.about.kind) (sym (seen_cell p)) (law.cells_fit p (seen_inside p e));
        strips_whole = λ r n h p q e f.
            seen_cell_some p ∙ (law.strips_whole r (strip_below (domain_of k) (domain_of (seen k cut)) n) (seen_below n h) p q (sym (seen_strip n h p) ∙ e) (sym (seen_strip n h q) ∙ f) ∙ sym (seen_cell_some q));
      }
    where
      seen_cell_some : (p : Coordinates) → is_some (cell_at (seen k cut) p) ≡ is_some (cell_at k p)
      seen_cell_some p = ap is_some (seen_cell p)

-- ---- the window

seen_on_lawful : (o : Option Coverage) (cut : Cut) → ((k : Coverage) → o ≡ Some k → LawfulCoverage k) → Lawful (seen_on o cut)
seen_on_lawful None cut law = none_lawful
seen_on_lawful (Some k) cut law =
    by_test (cut_fits (domain_of k) cut)
    (λ e. subst Lawful (sym (ap (λ b. cond b (seen k cut ∷ []) []) e)) (one_lawful (seen k cut) (seen_lawful k cut (law k refl) e)))
    (λ e. subst Lawful (sym (ap (λ b. cond b (seen k cut ∷ []) []) e)) none_lawful)

pub window_lawful : (m : List Coverage) (c : ℕ) (cut : Cut) → Lawful m → Lawful (window_meaning m c cut)
window_lawful m c cut law = seen_on_lawful (slice_get m c) cut (λ k e. law.each c k e)
