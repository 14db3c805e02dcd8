-- Iterators: the domain that they go through, and the words that they bind.
use Rattle.std.specs.Prelude.{Bool, true, cond, ◌&&◌, List, [], ◌∷◌, ℤ, Some, None, Option, int_le}
use Rattle.std.specs.Str.{bytes_eq}
use Rattle.coverage.specs.declared.range.Range.{Range}
use Rattle.coverage.specs.Axes.{Extents, Coordinates, no_extents, set_axis, is_none}
use Rattle.syntax.specs.Tree.{Word, Iterator}

-- the iterators in use, each word with the range that it goes through
abbrev pub Ranges : Type 0
Ranges = Word → Option Range

-- where each iterator stands
abbrev pub Places : Type 0
Places = Word → ℤ

-- around the outermost expression none is in use
abbrev pub no_ranges : Ranges
no_ranges w = None

-- the domain that iterators go through
abbrev pub iterator_extents : List Iterator → Extents
iterator_extents [] = no_extents
iterator_extents (i ∷ rest) = set_axis (iterator_extents rest) i.axis (Some i.range)

-- the iterators in use inside a form
abbrev pub bind_ranges : List Iterator → Ranges → Ranges
bind_ranges [] g w = g w
bind_ranges (i ∷ rest) g w = cond (bytes_eq i.word w) (Some i.range) (bind_ranges rest g w)

-- where they stand at a point: each at the coordinate of its axis
abbrev pub bind_places : List Iterator → Coordinates → Places → Places
bind_places [] p v w = v w
bind_places (i ∷ rest) p v w = cond (bytes_eq i.word w) (p i.axis) (bind_places rest p v w)

-- words in use nowhere around, nor twice here
abbrev pub new_words : List Iterator → Ranges → Bool
new_words [] g = true
new_words (i ∷ rest) g = is_none (bind_ranges rest g i.word) && new_words rest g

-- distinct axes, and no lowest above its highest
abbrev pub own_axes : List Iterator → Bool
own_axes [] = true
own_axes (i ∷ rest) = (is_none (iterator_extents rest i.axis) && int_le i.range.lo i.range.hi) && own_axes rest
