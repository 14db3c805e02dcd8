-- The limits of what a shelf may hold: names, coordinates, spans and cells.
use Rattle.std.specs.Prelude.{ℕ, Bool, true, false, not, ◌&&◌, ◌||◌, List, [], ◌∷◌, length, take, pos, negsuc, Some, None, Option, int_le, nat_le}
use Rattle.std.specs.List.{list_all}
use Rattle.coverage.specs.declared.axis.Axis.TheVariants.{X}
use Rattle.coverage.specs.declared.range.Range.{Range}
use Rattle.coverage.specs.declared.kind.Kind.{Kind}
use Rattle.coverage.specs.declared.name.Name.{Name}
use Rattle.coverage.specs.declared.description.Description.{Description}
use Rattle.coverage.specs.Axes.{Extents, axes, all_over, cells, extents, is_none}
use Rattle.coverage.specs.Kinds.{low, high}

-- ---- names: an ASCII letter, and up to 15 more letters, digits or underscores

abbrev pub between : ℕ → ℕ → ℕ → Bool
between lo b hi = nat_le lo b && nat_le b hi

abbrev pub is_letter : ℕ → Bool
is_letter b = between 65 b 90 || between 97 b 122

abbrev pub is_word_byte : ℕ → Bool
is_word_byte b = is_letter b || (between 48 b 57 || between 95 b 95)

abbrev pub all_bytes : List ℕ → Bool
all_bytes bs = list_all is_word_byte bs

abbrev pub starts_name : List ℕ → Bool
starts_name [] = false
starts_name (b ∷ rest) = is_letter b

abbrev pub is_name : List ℕ → Bool
is_name bs = nat_le (length bs) 16 && (starts_name bs && all_bytes bs)

-- the bytes of a name
abbrev pub name_bytes : Name → List ℕ
name_bytes n = take n.len n.bytes

-- ---- coordinates: each axis has its ends in order, within ±1,000,000, and x is there

abbrev pub ordered : Range → Bool
ordered r = int_le r.lo r.hi

abbrev pub axis_bounded : Option Range → Bool
axis_bounded None = true
axis_bounded (Some r) = ordered r && (int_le (negsuc 999999) r.lo && int_le r.hi (pos 1000000))

abbrev pub bounded : Extents → Bool
bounded d = not (is_none (d X)) && all_over (λ a. axis_bounded (d a)) axes

-- ---- spans: lowest not above highest, both within ±2,147,483,647

abbrev pub kind_ordered : Kind → Bool
kind_ordered k = int_le (low k) (high k)

abbrev pub kind_narrow : Kind → Bool
kind_narrow k = int_le (negsuc 2147483646) (low k) && int_le (high k) (pos 2147483647)

-- ---- cells: at most 65,536

abbrev pub few : Extents → Bool
few d = nat_le (cells d) 65536

-- a description that a shelf may hold
abbrev pub describable : Description → Bool
describable a =
    is_name (name_bytes a.name)
    && (bounded (extents a.domain)
    && (kind_ordered a.kind
    && (kind_narrow a.kind
    && few (extents a.domain))))
