use Rattle.std.proofs.Common.{◌≡◌, true, ℤ, ◌*ℤ◌, Some, Option, sym, ap, ◌∙◌, ap₂, arith, w64, SFits, to_z, of_z, rules}
use Rattle.std.specs.Int.{int_min, int_max}
use Rattle.std.proofs.lemmas.Int.{to_z-of_z}
use Rattle.coverage.specs.declared.range.Range.{Range}
use Rattle.coverage.specs.Limits.{axis_bounded}
use Rattle.shelf_laws.specs.Ramp.{is_mild, rises}
use Rattle.shelf_laws.proofs.Products.{fits_64}
use Rattle.shelf_laws.proofs.Ramps.{ends_hold, rise_small}
use Rattle.shelf_laws.proofs.ramp.rises.Goals as goal

-- the products at both ends fit
ends_fit : (axis : Option Range) (r : Range) (s : ℤ) → axis ≡ Some r → axis_bounded axis ≡ true → is_mild s ≡ true → SFits w64 (s *ℤ r.lo) × SFits w64 (s *ℤ r.hi)
ends_fit axis r s e h m =
    let b = ap axis_bounded (sym e) ∙ h in
    let ends = ends_hold r b in
    (fits_64 100000000 (s *ℤ r.lo) (omega arith) (rise_small (Some r) s r.lo b ends.0 m), fits_64 100000000 (s *ℤ r.hi) (omega arith) (rise_small (Some r) s r.hi b ends.1 m))

-- the pair as it is made of the products
made : (r : Range) (s a b : ℤ) → a ≡ int_min (s *ℤ r.lo) (s *ℤ r.hi) → b ≡ int_max (s *ℤ r.lo) (s *ℤ r.hi) → ◌≡◌ {A = Range} (record { lo = a; hi = b }) (rises (Some r) s)
made r s a b e f = let make : ℤ → ℤ → Range = λ x y. record { lo = x; hi = y } in ap₂ make e f

pub returns-in-Some : goal.returns-in-Some
returns-in-Some c =
    let r = c.in-Some.range in
    let s = c.args.slope in
    let p = ends_fit c.args.axis r s c.in-Some.is c.requires.bounded c.requires.mild in
    let fl : SFits w64 r.lo = search rules in
    let fh : SFits w64 r.hi = search rules in
    let near : to_z w64 (of_z w64 (to_z w64 (of_z w64 s) *ℤ to_z w64 (of_z w64 r.lo))) ≡ s *ℤ r.lo =
    rw (to_z-of_z w64 s c.ranges.slope, to_z-of_z w64 r.lo fl) (to_z-of_z w64 _ p.0) in
    let far : to_z w64 (of_z w64 (to_z w64 (of_z w64 s) *ℤ to_z w64 (of_z w64 r.hi))) ≡ s *ℤ r.hi =
    rw (to_z-of_z w64 s c.ranges.slope, to_z-of_z w64 r.hi fh) (to_z-of_z w64 _ p.1) in
    made r s _ _
    (to_z-of_z w64 c.min.result (record { sfits = c.min.type_inv }) ∙ (c.min.ensures.value ∙ ap₂ int_min near far))
    (to_z-of_z w64 c.max.result (record { sfits = c.max.type_inv }) ∙ (c.max.ensures.value ∙ ap₂ int_max near far))
    ∙ ap (λ x. rises x s) (sym c.in-Some.is)
