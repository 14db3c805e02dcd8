-- The byte grid: one fixed coverage in the caller's bytes, each cell at its number.
use Rattle.std.specs.Prelude.{ℕ, Bool, true, cond, ◌&&◌, List, length, ℤ, pos, Some, None, Option, ◌==◌, int_le, nat_le, slice_index}
use Rattle.coverage.specs.declared.kind.Kind.{Kind}
use Rattle.coverage.specs.declared.kind.Kind.TheVariants.{Number}
use Rattle.coverage.specs.declared.description.Description.{Description}
use Rattle.coverage.specs.Axes.{Extents, cells, inside_b, number_at}
use Rattle.coverage.specs.Kinds.{high, low}
use Rattle.coverage.specs.Limits.{bounded, few, is_name}
use Rattle.shelf.specs.declared.fault.MakingFault.{MakingFault}
use Rattle.shelf.specs.declared.fault.MakingFault.TheVariants.{NoName, OutOfBounds, ManyCells, WrongLength}
use Rattle.shelf.specs.Meaning.{Coverage}
use Rattle.shelf_laws.specs.Grid.{length_ok}
use Rattle.shelf_laws.specs.Single.{CellsOf, fixed_ok, single}

-- values lie in the span 0 to 254
abbrev pub byte_kind : Kind
byte_kind = Number (record { lo = pos 0; hi = pos 254 })

-- a byte to 254 is its value, and 255 is null
abbrev pub byte_value : ℕ → Option ℤ
byte_value b = cond (nat_le b 254) (Some (pos b)) None

abbrev pub byte_cells : List ℕ → CellsOf
byte_cells bs d p = cond (inside_b d p) (byte_value (slice_index bs (number_at d p))) None

abbrev pub byte_meaning : Option Description → List ℕ → List Coverage
byte_meaning o bs = single o (byte_cells bs)

-- the kind, where there is a coverage, takes every value of a byte
abbrev pub takes_bytes : Option Description → Bool
takes_bytes None = true
takes_bytes (Some a) = int_le (low a.kind) (pos 0) && int_le (pos 254) (high a.kind)

-- what a byte grid keeps: a fixed coverage of such a kind, and a byte for each cell
abbrev pub byte_keeps : List ℕ → Description → Bool
byte_keeps bs a = fixed_ok (Some a) && (takes_bytes (Some a) && length_ok (Some a) (length bs))

-- which making is refused: no name; an axis with its ends out of order or out of bounds, or x
-- missing; too many cells; another number of bytes than of cells
abbrev pub byte_grid_fault : List ℕ → Extents → ℕ → Option MakingFault
byte_grid_fault name d length =
    cond (is_name name)
    (cond (bounded d)
    (cond (few d)
    (cond (length == cells d) None (Some (WrongLength (cells d))))
    (Some ManyCells))
    (Some OutOfBounds))
    (Some NoName)
