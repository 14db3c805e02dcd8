-- A coverage after an accepted strip: its cells, its laws, and what stays known.
use Rattle.std.proofs.Common.{◌≡◌, ℕ, ◌<◌, Bool, true, false, cond, eqb, List, length, get_or, ℤ, pos, is_some, Some, None, Option, sym, refl, ap, ◌∙◌, subst, ap₂, arith, eq-eqb, eqb-true}
use borrow.Author.Tests.{clash}
use lib.Signed.{le_z}
use Rattle.std.proofs.lemmas.Int.{ints}
use Rattle.coverage.specs.declared.axis.Axis.{Axis}
use Rattle.coverage.specs.declared.axis.Axis.TheVariants.{X}
use Rattle.coverage.specs.declared.range.Range.{Range}
use Rattle.coverage.specs.declared.kind.Kind.{Kind}
use Rattle.coverage.specs.Axes.{Coordinates, Inside, Ordered, step_of}
use Rattle.coverage.specs.Kinds.{Within, fits, low, high}
use Rattle.coverage.specs.Strips.{in_strip, strip_at, strip_first}
use Rattle.coverage.proofs.Bools.{and_left, and_right}
use Rattle.coverage.proofs.Points.{inside_from}
use Rattle.coverage.proofs.Numbers.{step_below}
use Rattle.coverage.proofs.Bounds.{bounded_ordered, describable_by}
use Rattle.coverage.proofs.Standing.{in_strip_holds, in_own_strip, strip_first_holds, first_strip}
use Rattle.shelf.specs.declared.fault.ShelfFault.{ShelfFault}
use Rattle.shelf.specs.declared.fault.ShelfFault.TheVariants.{AlreadyThere, Fixed}
use Rattle.shelf.specs.Meaning.{Coverage, cell_at, domain_of, first, put_strip, settled_on, shape_fault, strip_refused, strip_there}
use Rattle.shelf.specs.Laws.{LawfulCoverage}
use Rattle.shelf.proofs.Settled.{settled_in_strip}
use Rattle.shelf.proofs.Fits.{Fitting, shape_fits, fit_each}

first_none : (x y : Option ShelfFault) → first x y ≡ None → (x ≡ None) × (y ≡ None)
first_none None y e = (refl, e)
first_none (Some f) y e = absurd (let z : ◌≡◌ {A = ℕ} 0 1 = cc in omega arith)

not_there : (b : Bool) (f : ShelfFault) → cond b (Some f) None ≡ None → b ≡ false
not_there true f e = absurd (let z : ◌≡◌ {A = ℕ} 0 1 = cc in omega arith)
not_there false f e = refl

receiving : (b : Bool) (x : Option ShelfFault) (f : ShelfFault) → cond b x (Some f) ≡ None → b ≡ true
receiving true x f e = refl
receiving false x f e = absurd (let z : ◌≡◌ {A = ℕ} 0 1 = cc in omega arith)

settled_step : (r : Option Range) (v : ℤ) → step_of r (settled_on r v) ≡ step_of r v
settled_step None v = refl
settled_step (Some r) v = refl

fits_within : (k : Kind) (v : ℤ) → fits k v ≡ true → Within k (Some v)
fits_within k v e =
    let l = and_left (le_z (low k) v) (le_z v (high k)) e in
    let h = and_right (le_z (low k) v) (le_z v (high k)) e in
    (omega (arith, ints), omega (arith, ints))

pub ordered_domain : (k : Coverage) → LawfulCoverage k → (a : Axis) → Ordered (domain_of k a)
ordered_domain k law = bounded_ordered (domain_of k) (describable_by k.about law.described).axes_bounded

module _ (k : Coverage) (c n : ℕ) (cs : List ℤ) (law : LawfulCoverage k) (free : strip_refused k c n cs ≡ None) where
  tests : (shape_fault k.about c n cs ≡ None) × (cond (strip_there k n) (Some (AlreadyThere c n)) None ≡ None)
  tests = first_none (shape_fault k.about c n cs) (cond (strip_there k n) (Some (AlreadyThere c n)) None) free

  fitting : Fitting k.about n cs
  fitting = shape_fits k.about c n cs tests.0

  receives : k.about.receives ≡ true
  receives = receiving k.about.receives _ (Fixed c n) tests.0

  absent : strip_there k n ≡ false
  absent = not_there (strip_there k n) (AlreadyThere c n) tests.1

  -- a point lies in the strip just where the strip through it has its number
  in_strip_is : (p : Coordinates) → Inside (domain_of k) p → in_strip (domain_of k) n p ≡ eqb n (strip_at (domain_of k) p)
  in_strip_is p inside = go (in_strip (domain_of k) n p) refl (eqb n (strip_at (domain_of k) p)) refl
    where
      go : (a : Bool) → in_strip (domain_of k) n p ≡ a → (b : Bool) → eqb n (strip_at (domain_of k) p) ≡ b → a ≡ b
      go true e true f = refl
      go true e false f = absurd (clash (sym f ∙ eq-eqb _ _ (sym (in_strip_holds (domain_of k) (ordered_domain k law) n p fitting.below e).1)))
      go false e true f =
          absurd (clash (sym e ∙ subst (λ (i : ℕ). in_strip (domain_of k) i p ≡ true) (sym (eqb-true _ _ f)) (in_own_strip (domain_of k) (ordered_domain k law) p inside)))
      go false e false f = refl

  -- a cell is that of the strip where it lies in it, else as it was
  pub put_cell : (p : Coordinates) → Inside (domain_of k) p →
      cell_at (put_strip k n cs) p ≡ cond (eqb n (strip_at (domain_of k) p)) (Some (get_or cs (step_of (domain_of k X) (p X)) (pos 0))) (cell_at k p)
  put_cell p inside =
      let some : ℤ → Option ℤ = λ v. Some v in
      ap₂ (λ (b : Bool) (i : ℕ). cond b (some (get_or cs i (pos 0))) (cell_at k p)) (settled_in_strip (domain_of k) n p ∙ in_strip_is p inside) (settled_step (domain_of k X) (p X))

  put_within : (p : Coordinates) → Inside (domain_of k) p → Within k.about.kind (cell_at k p) → (b : Bool) →
      Within k.about.kind (cond b (Some (get_or cs (step_of (domain_of k X) (p X)) (pos 0))) (cell_at k p))
  put_within p inside was true =
      let s = step_below (domain_of k X) (p X) (inside X) in
      let w = fitting.wide in
      let lt : step_of (domain_of k X) (p X) < length cs = omega arith in
      fits_within k.about.kind _ (fit_each k.about.kind cs fitting.fit (step_of (domain_of k X) (p X)) lt)
  put_within p inside was false = was

  some_alike : (u v : Option ℤ) (x y : ℤ) → is_some u ≡ is_some v → (b : Bool) → is_some (cond b (Some x) u) ≡ is_some (cond b (Some y) v)
  some_alike u v x y e true = refl
  some_alike u v x y e false = e

  pub put_lawful : LawfulCoverage (put_strip k n cs)
  put_lawful = record {
    described = law.described;
    cells_fit = λ p e.
        let inside = inside_from (domain_of k) p e in
        subst (Within k.about.kind) (sym (put_cell p inside)) (put_within p inside (law.cells_fit p e) (eqb n (strip_at (domain_of k) p)));
    strips_whole = λ r i h p q e f.
        let a = in_strip_holds (domain_of k) (ordered_domain k law) i p h e in
        let b = in_strip_holds (domain_of k) (ordered_domain k law) i q h f in
        let x = get_or cs (step_of (domain_of k X) (p X)) (pos 0) in
        let y = get_or cs (step_of (domain_of k X) (q X)) (pos 0) in
        ap is_some (put_cell p a.0)
        ∙ (ap (λ (j : ℕ). is_some (cond (eqb n j) (Some x) (cell_at k p))) a.1
        ∙ (some_alike (cell_at k p) (cell_at k q) x y (law.strips_whole r i h p q e f) (eqb n i)
        ∙ (ap (λ (j : ℕ). is_some (cond (eqb n j) (Some y) (cell_at k q))) (sym b.1)
        ∙ sym (ap is_some (put_cell q b.0)))));
  }

  -- the first point of the strip: inside, in no other strip, and null before it
  pub first_of : (Inside (domain_of k) (strip_first (domain_of k) n)) × (strip_at (domain_of k) (strip_first (domain_of k) n) ≡ n) × (is_some (cell_at k (strip_first (domain_of k) n)) ≡ false)
  first_of = ((strip_first_holds (domain_of k) (ordered_domain k law) n fitting.below).0, first_strip (domain_of k) (ordered_domain k law) n fitting.below, absent)

  -- a point in the strip was null before it
  was_null : (p : Coordinates) → Inside (domain_of k) p → n ≡ strip_at (domain_of k) p → is_some (cell_at k p) ≡ false
  was_null p inside e =
      let good = ordered_domain k law in
      let d = domain_of k in
      let f = strip_first d n in
      let here : in_strip d n p ≡ true = subst (λ (i : ℕ). in_strip d i p ≡ true) (sym e) (in_own_strip d good p inside) in
      let there : in_strip d n f ≡ true = subst (λ (i : ℕ). in_strip d i f ≡ true) (first_strip d good n fitting.below) (in_own_strip d good f (strip_first_holds d good n fitting.below).0) in
      law.strips_whole receives n fitting.below p f here there ∙ absent

  -- so what was known stays known
  pub put_keeps : (p : Coordinates) → Inside (domain_of k) p → (v : ℤ) → cell_at k p ≡ Some v → cell_at (put_strip k n cs) p ≡ Some v
  put_keeps p inside v e = put_cell p inside ∙ go (eqb n (strip_at (domain_of k) p)) refl
    where
      go : (b : Bool) → eqb n (strip_at (domain_of k) p) ≡ b → cond b (Some (get_or cs (step_of (domain_of k X) (p X)) (pos 0))) (cell_at k p) ≡ Some v
      go true f = absurd (clash (sym (was_null p inside (eqb-true _ _ f)) ∙ ap is_some e))
      go false f = e
