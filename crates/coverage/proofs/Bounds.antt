-- What the limits give: ends in order, sizes that fit, few cells and strips.
use Rattle.std.proofs.Common.{◌≡◌, ◌*◌, ◌≤◌, Bool, true, false, cond, not, List, [], ◌∷◌, Some, None, Option, refl, subst, mul-pos, one-mul, mul-one, arith, leb-true}
use borrow.Author.Tests.{clash}
use lib.Signed.{le_z}
use Rattle.std.proofs.lemmas.Int.{ints}
use Rattle.std.proofs.lemmas.Nat.{mul-le}
use Rattle.coverage.specs.declared.range.Range.{Range}
use Rattle.coverage.specs.declared.axis.Axis.{Axis}
use Rattle.coverage.specs.declared.axis.Axis.TheVariants.{X}
use Rattle.coverage.specs.declared.description.Description.{Description}
use Rattle.coverage.specs.Axes.{Extents, Ordered, Sized, axes, cells, cells_over, extents, is_none, same_axis, size_of}
use Rattle.coverage.specs.Limits.{axis_bounded, bounded, describable, few, is_name, kind_narrow, kind_ordered, name_bytes}
use Rattle.coverage.specs.Strips.{row_width, strips}
use Rattle.coverage.proofs.Bools.{and_left, and_right}
use Rattle.coverage.proofs.Points.{axis_of_lem, each, member, present}
use Rattle.coverage.proofs.Numbers.{size_some}

axis_ordered : (r : Option Range) → axis_bounded r ≡ true → Ordered r
axis_ordered None h = tt
axis_ordered (Some r) h = let a = and_left (le_z r.lo r.hi) _ h in omega (arith, ints)

pub bounded_ordered : (d : Extents) → bounded d ≡ true → (a : Axis) → Ordered (d a)
bounded_ordered d h a = axis_ordered (d a) (each (λ b. axis_bounded (d b)) (and_right (not (is_none (d X))) _ h) a)

-- x is there
pub few_cells : (d : Extents) → few d ≡ true → cells d ≤ 65536
few_cells d h = leb-true (cells d) 65536 h

over_some : (list : List Axis) (d : Extents) → ((a : Axis) → Ordered (d a)) → 1 ≤ cells_over list d
over_some [] d g = omega arith
over_some (a ∷ rest) d g = mul-pos (size_some (d a) (g a)) (over_some rest d g)

size_over : (list : List Axis) (d : Extents) → ((a : Axis) → Ordered (d a)) → (a : Axis) → member a list ≡ true → size_of (d a) ≤ cells_over list d
size_over [] d g a m = absurd (clash m)
size_over (b ∷ rest) d g a m = go (same_axis b a) refl m (size_over rest d g a)
  where
    go : (s : Bool) → same_axis b a ≡ s → cond s true (member a rest) ≡ true → (member a rest ≡ true → size_of (d a) ≤ cells_over rest d) → size_of (d a) ≤ size_of (d b) * cells_over rest d
    go true e m i =
        subst (λ (c : Axis). size_of (d c) ≤ size_of (d b) * cells_over rest d) (axis_of_lem b a e)
        (omega (arith, mul-one (size_of (d b)), mul-le (size_of (d b)) 1 (size_of (d b)) (cells_over rest d) (omega arith) (over_some rest d g)))
    go false e m i = omega (arith, i m, one-mul (cells_over rest d), mul-le 1 (cells_over rest d) (size_of (d b)) (cells_over rest d) (size_some (d b) (g b)) (omega arith))

pub sized : (d : Extents) → ((a : Axis) → Ordered (d a)) → cells d ≤ 65536 → Sized d
sized d g h a = let s = size_over axes d g a (present a) in (size_some (d a) (g a), omega arith)

pub strips_few : (d : Extents) → ((a : Axis) → Ordered (d a)) → cells d ≤ 65536 → strips d ≤ 65536
strips_few d g h =
    omega (arith, one-mul (strips d), mul-le 1 (strips d) (row_width d) (strips d) (size_some (d X) (g X)) (omega arith))

-- a description within the limits, by its parts
pub record Describable (a : Description) : Type 0 where
  pub named : is_name (name_bytes a.name) ≡ true
  pub axes_bounded : bounded (extents a.domain) ≡ true
  pub kind_ordered_holds : kind_ordered a.kind ≡ true
  pub kind_narrow_holds : kind_narrow a.kind ≡ true
  pub cells_few : few (extents a.domain) ≡ true

pub describable_by : (a : Description) → describable a ≡ true → Describable a
describable_by a h =
    let b = and_right (is_name (name_bytes a.name)) _ h in
    let c = and_right (bounded (extents a.domain)) _ b in
    let d = and_right (kind_ordered a.kind) _ c in
    record {
      named = and_left (is_name (name_bytes a.name)) _ h;
      axes_bounded = and_left (bounded (extents a.domain)) _ b;
      kind_ordered_holds = and_left (kind_ordered a.kind) _ c;
      kind_narrow_holds = and_left (kind_narrow a.kind) _ d;
      cells_few = and_right (kind_narrow a.kind) _ d;
    }
