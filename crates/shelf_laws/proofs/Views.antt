-- The calls of a window, by the view that its code works with.
use Rattle.std.proofs.Common.{◌≡◌, ℕ, ◌<◌, ◌≤◌, Bool, true, false, cond, List, [], ◌∷◌, length, ℤ, Some, None, Ok, Err, Option, Result, sym, ap, ◌∙◌, subst, ap₂}
use Rattle.std.specs.List.{slice_get}
use Rattle.std.specs.Str.{bytes_eq}
use Rattle.coverage.specs.declared.axis.Axis.{Axis}
use Rattle.coverage.specs.declared.description.Description.{Description}
use Rattle.coverage.specs.Axes.{Coordinates, Extents, Inside, Ordered, Sized, extents, inside_b}
use Rattle.coverage.specs.Limits.{describable, name_bytes}
use Rattle.coverage.specs.Strips.{strip_at, strip_first, strips}
use Rattle.coverage.proofs.Points.{inside_from, inside_test}
use Rattle.coverage.proofs.Bounds.{bounded_ordered, describable_by, few_cells, sized, strips_few}
use Rattle.coverage.proofs.Standing.{strip_first_holds}
use Rattle.shelf.specs.declared.fault.ShelfFault.{ShelfFault}
use Rattle.shelf.specs.declared.fault.ShelfFault.TheVariants.{Fixed, NoStrip, Outside}
use Rattle.shelf.specs.Faults.{told}
use Rattle.shelf.specs.Meaning.{Coverage, describe_answer, domain_of, find_answer, look_answer, strip_after, strip_answer}
use Rattle.shelf.specs.Laws.{Lawful, LawfulCoverage}
use Rattle.shelf.proofs.Single.{refused_is}
use Rattle.shelf_laws.specs.declared.cut.Cut.{Cut}
use Rattle.shelf_laws.specs.declared.cut.View.{View}
use Rattle.shelf_laws.specs.Window.{seen, strip_below, view_on, window_meaning}
use Rattle.shelf_laws.proofs.Windows.{seen_inside, seen_lawful}
use Rattle.shelf_laws.proofs.WindowCalls.{Viewed, fault_fixed, fault_no_strip, look_beyond, look_shown, strip_through, viewed, window_is}

module _ (m : List Coverage) (c : ℕ) (cut : Cut) (v : View) (shown : Ok v ≡ view_on (slice_get m c) c cut) (law : Lawful m) where
  is : Viewed m c cut v
  is = viewed m c cut v shown

  below_lawful : LawfulCoverage is.below
  below_lawful = law.each c is.below is.there

  part_lawful : LawfulCoverage (seen is.below cut)
  part_lawful = seen_lawful is.below cut below_lawful is.fits

  part_domain : extents v.about.domain ≡ domain_of (seen is.below cut)
  part_domain = ap (λ (a : Description). extents a.domain) is.about

  whole_domain : extents v.whole ≡ domain_of is.below
  whole_domain = ap extents is.whole

  window : window_meaning m c cut ≡ seen is.below cut ∷ []
  window = window_is m c cut is.below is.there is.fits below_lawful

  pub view_count : 1 ≡ length (window_meaning m c cut)
  view_count = sym (ap length window)

  pub view_found : (name : List ℕ) (b : Bool) → bytes_eq (name_bytes v.about.name) name ≡ b → find_answer (window_meaning m c cut) name ≡ cond b (Some 0) None
  view_found name b e =
      let some : ℕ → Option ℕ = λ n. Some n in
      ap (λ w. find_answer w name) window
      ∙ ap (λ t. cond t (some 0) None) (ap (λ (a : Description). bytes_eq (name_bytes a.name) name) (sym is.about) ∙ e)

  -- the description seen is within the limits
  pub view_describable : describable v.about ≡ true
  view_describable = ap describable is.about ∙ part_lawful.described

  part_ordered : (a : Axis) → Ordered (extents v.about.domain a)
  part_ordered = bounded_ordered (extents v.about.domain) (describable_by v.about view_describable).axes_bounded

  pub view_sized : Sized (extents v.about.domain)
  view_sized = sized (extents v.about.domain) part_ordered (few_cells (extents v.about.domain) (describable_by v.about view_describable).cells_few)

  -- the first point of a strip of the window is inside the coverage below
  pub view_first : (n : ℕ) → n < strips (extents v.about.domain) → Inside (extents v.whole) (strip_first (extents v.about.domain) n)
  view_first n h =
      let p = strip_first (extents v.about.domain) n in
      let i = inside_test (extents v.about.domain) p (strip_first_holds (extents v.about.domain) part_ordered n h).0 in
      subst (λ (d : Extents). Inside d p) (sym whole_domain)
      (inside_from (domain_of is.below) p (seen_inside is.below cut below_lawful is.fits p (ap (λ d. inside_b d p) (sym part_domain) ∙ i)))

  pub whole_strips : strips (extents v.whole) ≤ 65536
  whole_strips =
      let l = describable_by is.below.about below_lawful.described in
      subst (λ (d : Extents). strips d ≤ 65536) (sym whole_domain)
      (strips_few (domain_of is.below) (bounded_ordered (domain_of is.below) l.axes_bounded) (few_cells (domain_of is.below) l.cells_few))

  below_is : (n : ℕ) → strip_at (extents v.whole) (strip_first (extents v.about.domain) n) ≡ strip_below (domain_of is.below) (domain_of (seen is.below cut)) n
  below_is n = ap₂ (λ (d e : Extents). strip_at d (strip_first e n)) whole_domain part_domain

  -- the calls under number 0
  module _ (i : ℕ) (first : i ≡ 0) where
    pub view_described : Ok v.about ≡ describe_answer (window_meaning m c cut) i
    view_described =
        let ok : Description → Result Description ShelfFault = λ a. Ok a in
        ap ok is.about ∙ sym (ap₂ describe_answer window first)

    pub view_looked : (p : Coordinates) → inside_b (extents v.about.domain) p ≡ true → told (look_answer m c p) i 0 ≡ look_answer (window_meaning m c cut) i p
    view_looked p e =
        subst (λ (j : ℕ). told (look_answer m c p) j 0 ≡ look_answer (window_meaning m c cut) j p) (sym first)
        (sym (look_shown m c cut is.below is.there is.fits below_lawful p (ap (λ d. inside_b d p) (sym part_domain) ∙ e)))

    pub view_beyond : (p : Coordinates) → inside_b (extents v.about.domain) p ≡ false → Err (Outside i) ≡ look_answer (window_meaning m c cut) i p
    view_beyond p e =
        subst (λ (j : ℕ). Err (Outside j) ≡ look_answer (window_meaning m c cut) j p) (sym first)
        (sym (look_beyond m c cut is.below is.there is.fits below_lawful p (ap (λ d. inside_b d p) (sym part_domain) ∙ e)))

    -- a refusal, with what is left
    abbrev Refused : ShelfFault → ℕ → List ℤ → Type 0
    Refused f n cs = (Err f ≡ strip_answer (window_meaning m c cut) i n cs) × (window_meaning m c cut ≡ strip_after (window_meaning m c cut) i n cs)

    pub view_fixed : (n : ℕ) (cs : List ℤ) → v.about.receives ≡ false → Refused (Fixed i n) n cs
    view_fixed n cs r =
        subst (λ (j : ℕ). (Err (Fixed j n) ≡ strip_answer (window_meaning m c cut) j n cs) × (window_meaning m c cut ≡ strip_after (window_meaning m c cut) j n cs)) (sym first)
        (refused_is (window_meaning m c cut) 0 n cs (Fixed 0 n) (fault_fixed m c cut is.below is.there is.fits below_lawful n cs (ap (λ (a : Description). a.receives) (sym is.about) ∙ r)))

    pub view_no_strip : (n : ℕ) (cs : List ℤ) → v.about.receives ≡ true → strips (extents v.about.domain) ≤ n → Refused (NoStrip i n) n cs
    view_no_strip n cs r h =
        subst (λ (j : ℕ). (Err (NoStrip j n) ≡ strip_answer (window_meaning m c cut) j n cs) × (window_meaning m c cut ≡ strip_after (window_meaning m c cut) j n cs)) (sym first)
        (refused_is (window_meaning m c cut) 0 n cs (NoStrip 0 n)
        (fault_no_strip m c cut is.below is.there is.fits below_lawful n cs (ap (λ (a : Description). a.receives) (sym is.about) ∙ r) (subst (λ (d : Extents). strips d ≤ n) part_domain h)))

    -- a strip that the window has: the answer and what is left are those of the strip below
    pub view_through : (n s : ℕ) (cs : List ℤ) (after : List Coverage) → n < strips (extents v.about.domain) →
        s ≡ strip_at (extents v.whole) (strip_first (extents v.about.domain) n) → after ≡ strip_after m c s cs →
        (told (strip_answer m c s cs) i n ≡ strip_answer (window_meaning m c cut) i n cs) × (window_meaning after c cut ≡ strip_after (window_meaning m c cut) i n cs)
    view_through n s cs after h e f =
        let t = strip_through m c cut is.below is.there is.fits below_lawful n cs (subst (λ (d : Extents). n < strips d) part_domain h) in
        let q : s ≡ strip_below (domain_of is.below) (domain_of (seen is.below cut)) n = e ∙ below_is n in
        subst (λ (j : ℕ). (told (strip_answer m c s cs) j n ≡ strip_answer (window_meaning m c cut) j n cs) × (window_meaning after c cut ≡ strip_after (window_meaning m c cut) j n cs)) (sym first)
        (ap (λ x. told (strip_answer m c x cs) 0 n) q ∙ sym t.0, ap (λ x. window_meaning x c cut) (f ∙ ap (λ x. strip_after m c x cs) q) ∙ t.1)
