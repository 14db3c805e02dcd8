-- The laws that every shelf shows of its meaning.
use Rattle.std.specs.Prelude.{◌≡◌, ℕ, ◌<◌, ◌≤◌, true, List, length, is_some, Some}
use Rattle.std.specs.List.{slice_get}
use Rattle.coverage.specs.Axes.{Coordinates, inside_b}
use Rattle.coverage.specs.Kinds.{Within}
use Rattle.coverage.specs.Limits.{describable}
use Rattle.coverage.specs.Strips.{in_strip, strips}
use Rattle.shelf.specs.Meaning.{Coverage, cell_at, domain_of}

pub record LawfulCoverage (k : Coverage) : Type 0 where
  -- its name, domain and kind are within the limits
  pub described : describable k.about ≡ true
  -- a cell is null or of its kind
  pub cells_fit : (p : Coordinates) → inside_b (domain_of k) p ≡ true → Within k.about.kind (cell_at k p)
  -- in a receiving coverage each strip is wholly null or wholly values
  pub strips_whole : k.about.receives ≡ true → (n : ℕ) → n < strips (domain_of k) → (p q : Coordinates) →
      in_strip (domain_of k) n p ≡ true → in_strip (domain_of k) n q ≡ true → is_some (cell_at k p) ≡ is_some (cell_at k q)

pub record Lawful (m : List Coverage) : Type 0 where
  pub at_most_eight : length m ≤ 8
  pub each : (c : ℕ) (k : Coverage) → slice_get m c ≡ Some k → LawfulCoverage k
