-- What the code works out and how it refuses, in the words of the language's definitions.
use Rattle.std.specs.Prelude.{◌≤◌, Some, None, Ok, Err, Option, Result}
use lib.Dec.{T_prop}
use Rattle.coverage.specs.declared.axis.Axis.{Axis}
use Rattle.coverage.specs.declared.range.Range.{Range}
use Rattle.coverage.specs.declared.description.Description.{Description}
use Rattle.coverage.specs.declared.refusal.Refusal.{Refusal}
use Rattle.coverage.specs.Axes.{Ordered, cells, extents}
use Rattle.language.specs.Faults.{most_reads, refuse}
use Rattle.language.specs.Limits.{InBounds, most_cells}
use Rattle.language.specs.Typing.{About}
use Rattle.language.specs.Queries.{Announced}
use Rattle.checking.specs.declared.fault.CheckFault.{CheckFault}
use Rattle.checking.specs.declared.fault.CheckFault.TheVariants.{Unbound, Outside, Unfit, ZeroDivisor, WideSpan, ManyCells, HighPromise}
use Rattle.checking.specs.declared.typed.Typed.{Typed}

-- a fault as it is told: the layer is check, the number that of the cause, and the place comes back
abbrev pub refusal_of : CheckFault → Refusal
refusal_of (Unbound place) = refuse 5 place
refusal_of (Outside place) = refuse 6 place
refusal_of (Unfit place) = refuse 7 place
refusal_of (ZeroDivisor place) = refuse 8 place
refusal_of (WideSpan place) = refuse 9 place
refusal_of (ManyCells place) = refuse 10 place
refusal_of (HighPromise place) = refuse 11 place

-- the domain, kind and promise of a part, as the language speaks of them
abbrev pub part_of : Typed → Announced
part_of t = record { extents = extents t.domain; kind = t.kind; promise = t.promise }

-- the answer of a rule, as the language speaks of it
abbrev pub told : Result Typed CheckFault → Result Announced Refusal
told (Ok t) = Ok (part_of t)
told (Err f) = Err (refusal_of f)

-- what is said of a coverage that a `$` name stands for
abbrev pub about_of : Description → About
about_of a = record { extents = extents a.domain; kind = a.kind }

-- what every accepted part keeps: its span in bounds with the ends in order, each range of its domain
-- with the ends in order, at most so many cells, and a promise no higher than allowed
pub record Limited (p : Announced) : Type 0 where
  pub span : InBounds p.kind
  pub ordered : (a : Axis) → Ordered (p.extents a)
  pub few : cells p.extents ≤ most_cells
  pub reads : p.promise ≤ most_reads

-- an order of ends has one proof at most
pub Ordered-prop : (r : Option Range) → IsProp (Ordered r)
Ordered-prop None = hlevel
Ordered-prop (Some r) = hlevel T_prop
