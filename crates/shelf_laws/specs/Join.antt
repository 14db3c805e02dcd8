-- The join of two shelves: the second's coverages after the first's, those beyond the eighth not on it.
use Rattle.std.specs.Prelude.{List, ◌++◌, take}
use Rattle.shelf.specs.Meaning.{Coverage}

abbrev pub joined : List Coverage → List Coverage → List Coverage
joined a b = take 8 (a ++ b)
