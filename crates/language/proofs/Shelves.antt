-- What holds of a shelf holds of what `$` words stand for.
use Rattle.std.proofs.Common.{◌≡◌, ℕ, ◌≤◌, List, ℤ, Some, None, Option, arith as linear}
use Rattle.coverage.specs.declared.axis.Axis.{Axis}
use Rattle.coverage.specs.Axes.{Coordinates, cells, Inside, Agree, Ordered}
use Rattle.coverage.specs.Kinds.{Within}
use Rattle.syntax.specs.Tree.{Word, Binding}
use Rattle.language.specs.Typing.{About, Described}
use Rattle.language.specs.Values.{Looks}
use Rattle.language.specs.Queries.{stands_for, described_as, looked_at, bind_about, bind_looks}
use Rattle.language.specs.Limits.{most_cells, InBounds, BoundedShelf}
use Rattle.language.specs.Laws.{OrderedDomains, CellsOfTheirKind, SoundShelf, KnownCellsStay, Known, AllKnown, CellsAlike}

none_found : {B : Type 0} {a : About} → ◌≡◌ {A = Option About} None (Some a) → B
none_found e = let z : ◌≡◌ {A = ℕ} 0 1 = cc in absurd (omega linear)

-- a fact of every name that is found, of what a `$` word stands for
found : (find : Described) (P : Option Word → About → Type 0) → ((n : Word) (a : About) → find n ≡ Some a → P (Some n) a) → (o : Option Word) (a : About) → described_as find o ≡ Some a → P o a
found find P h None a e = none_found e
found find P h (Some n) a e = h n a e

module _ (bs : List Binding) (find : Described) where
  pub bind_ordered : OrderedDomains find → OrderedDomains (bind_about bs find)
  bind_ordered h w a e = found find (λ o b. (x : Axis) → Ordered (b.extents x)) h (stands_for bs w) a e

  pub bind_kinds : (look : Looks) → CellsOfTheirKind find look → CellsOfTheirKind (bind_about bs find) (bind_looks bs look)
  bind_kinds look h w a e = found find (λ o b. (p : Coordinates) → Inside b.extents p → Within b.kind (looked_at look o p)) h (stands_for bs w) a e

  pub bind_sound : (look : Looks) → SoundShelf find look → SoundShelf (bind_about bs find) (bind_looks bs look)
  bind_sound look s = record { ordered = bind_ordered s.ordered; kinds = bind_kinds look s.kinds }

  pub bind_stay : (look later : Looks) → KnownCellsStay find look later → KnownCellsStay (bind_about bs find) (bind_looks bs look) (bind_looks bs later)
  bind_stay look later h w a e = found find (λ o b. (p : Coordinates) → Inside b.extents p → (v : ℤ) → looked_at look o p ≡ Some v → looked_at later o p ≡ Some v) h (stands_for bs w) a e

  pub bind_known : (look : Looks) → AllKnown find look → AllKnown (bind_about bs find) (bind_looks bs look)
  bind_known look h w a e = found find (λ o b. (p : Coordinates) → Inside b.extents p → Known (looked_at look o p)) h (stands_for bs w) a e

  pub bind_alike : (look other : Looks) → CellsAlike find look other → CellsAlike (bind_about bs find) (bind_looks bs look) (bind_looks bs other)
  bind_alike look other h w a e = found find (λ o b. (p q : Coordinates) → Inside b.extents p → Agree b.extents p q → looked_at look o p ≡ looked_at other o q) h (stands_for bs w) a e

  pub bind_bounded : BoundedShelf find → BoundedShelf (bind_about bs find)
  bind_bounded s = record {
    ordered = bind_ordered s.ordered;
    kinds = λ w a e. found find (λ o b. InBounds b.kind) s.kinds (stands_for bs w) a e;
    cells = λ w a e. found find (λ o b. cells b.extents ≤ most_cells) s.cells (stands_for bs w) a e;
  }
