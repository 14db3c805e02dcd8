-- What queries ask of a shelf: the coverage that a name stands for, its description and its cells.
use Rattle.std.specs.Prelude.{ℕ, List, ℤ, Some, None, Option}
use Rattle.std.specs.Option.{option_map}
use Rattle.std.specs.List.{slice_get}
use Rattle.coverage.specs.Axes.{Coordinates}
use Rattle.shelf.specs.Meaning.{Coverage, domain_of, cell_at, find_answer}
use Rattle.syntax.specs.Tree.{Word}
use Rattle.language.specs.Typing.{About, Described}
use Rattle.language.specs.Values.{Looks}

-- the coverage with a number, if there is a number
abbrev pub numbered : List Coverage → Option ℕ → Option Coverage
numbered m None = None
numbered m (Some c) = slice_get m c

-- the coverage that a name stands for: the lowest-numbered with that name
abbrev pub named : List Coverage → Word → Option Coverage
named m w = numbered m (find_answer m w)

-- its domain and kind
abbrev pub about_of : Coverage → About
about_of k = record { extents = domain_of k; kind = k.about.kind }

-- what a check asks of a shelf
abbrev pub describes : List Coverage → Described
describes m w = option_map about_of (named m w)

-- a cell of a coverage, if there is a coverage
abbrev pub cell_in : Option Coverage → Coordinates → Option ℤ
cell_in None p = None
cell_in (Some k) p = cell_at k p

-- what a run asks of a shelf
abbrev pub looks : List Coverage → Looks
looks m w p = cell_in (named m w) p
