-- The state of a unit by its meaning, and the refusals that are the unit's own.
use Rattle.std.specs.Prelude.{◌≡◌, ℕ, Bool, cond, ◌&&◌, List, None, Option, nat_le}
use Rattle.coverage.specs.declared.refusal.Refusal.{Refusal}
use Rattle.coverage.specs.declared.refusal.Layer.{Layer}
use Rattle.coverage.specs.declared.refusal.Layer.TheVariants as layer
use Rattle.coverage.specs.declared.refusal.Returned.TheVariants.{One}
use Rattle.coverage.specs.Axes.{cells}
use Rattle.shelf.specs.Meaning.{Coverage}
use Rattle.shelf.specs.Laws.{Lawful}
use Rattle.syntax.specs.Tree.{Query}
use Rattle.language.specs.Queries.{Announced}

-- a query that stands in a plan, with the domain, kind and promise that were announced for it
pub record Standing : Type 0 where
  pub query : Query
  pub announced : Announced

-- the coverages of the shelf, and what stands in the plan of each number
pub record State : Type 0 where
  pub shelf : List Coverage
  pub plans : ℕ → Option Standing

-- plans have the numbers 1 to 4
abbrev pub is_plan : ℕ → Bool
is_plan p = nat_le 1 p && nat_le p 4

-- what stands in a plan: nothing where there is no such plan
abbrev pub standing : State → ℕ → Option Standing
standing s p = cond (is_plan p) (s.plans p) None

-- the cells that its answer has
abbrev pub cells_of : Standing → ℕ
cells_of q = cells q.announced.extents

-- a unit just switched on: all plans are empty, and the shelf keeps the laws of shelves
pub record SwitchedOn (s : State) : Type 0 where
  pub all_plans_empty : (p : ℕ) → s.plans p ≡ None
  pub shelf_lawful : Lawful s.shelf

-- 12: no such plan, or an empty one; the plan's number is returned
abbrev pub no_plan : Layer → ℕ → Refusal
no_plan l p = record { layer = l; number = 12; returned = One p }

-- 13: an area is too short; the length wanted is returned
abbrev pub too_short : ℕ → Refusal
too_short n = record { layer = layer.Run; number = 13; returned = One n }
