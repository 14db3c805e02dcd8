-- A life of a few calls, over the roof of Worked: the definitions speak of something.
use Rattle.std.specs.Prelude.{ℕ, List, [], ◌∷◌, replicate, pos, Some, None, Ok, Err, codes}
use Rattle.coverage.specs.declared.refusal.Layer.TheVariants as layer
use Rattle.coverage.specs.declared.refusal.Returned.TheVariants.{Two}
use Rattle.coverage.specs.Axes.{extents, no_extents}
use Rattle.shelf.specs.Faults.{shelf_says}
use Rattle.lives.specs.declared.cell.Cell.{Cell}
use Rattle.lives.specs.Unit.{State, SwitchedOn, no_plan, too_short}
use Rattle.lives.specs.Entries.{entry}
use Rattle.lives.specs.Calls.{Areas, Call, strip, check, run}
use Rattle.lives.specs.Life.{Life}
use Rattle.lives.specs.Worked.{blank, strip0, strip1, roof_domain, around, accepts}

-- a unit just switched on, over the roof before any strip
abbrev pub switched_on : State
switched_on = record { shelf = blank; plans = λ p. None }

-- areas: 256 work entries, and an answer area of these entries
abbrev pub areas : List Cell → Areas
areas cs = record { work = replicate 256 (pos 0); answer = cs }

-- areas that are both too short for the text of plan 1
abbrev pub too_small : Areas
too_small = record { work = replicate 255 (pos 0); answer = replicate 5 (entry None) }

-- an entry with a value, and a null
abbrev pub known : ℕ → Cell
known v = entry (Some (pos v))

abbrev pub null : Cell
null = entry None

-- an answer area of seven entries as it is lent
abbrev pub lent : List Cell
lent = replicate 7 (known 9)

-- the calls in their order: strip 1 comes, and again; a text is checked into plan 1 and run; plan 2 is empty;
-- a text goes into plan 2, its answer is null until strip 0 comes; too short a work area is told before too short
-- an answer area; then plan 1 is answered again
abbrev pub calls : List Call
calls =
    run 1 (areas lent) (Ok (record { cells = 6; reads = 6 })) (areas (known 11 ∷ known 21 ∷ known 31 ∷ known 41 ∷ known 51 ∷ known 61 ∷ known 9 ∷ []))
    ∷ run 1 (areas (replicate 5 null)) (Err (too_short 6)) (areas (replicate 5 null))
    ∷ run 1 too_small (Err (too_short 256)) too_small
    ∷ run 2 (areas lent) (Ok (record { cells = 1; reads = 6 })) (areas (known 210 ∷ replicate 6 (known 9)))
    ∷ strip 0 0 strip0 (Ok tt)
    ∷ run 2 (areas lent) (Ok (record { cells = 1; reads = 6 })) (areas (null ∷ replicate 6 (known 9)))
    ∷ check 2 (around (codes "add($c)")) (accepts no_extents (pos 0) (pos 600) 6)
    ∷ check 5 (around (codes "add($c)")) (Err (no_plan layer.Check 5))
    ∷ run 2 (areas lent) (Err (no_plan layer.Run 2)) (areas lent)
    ∷ run 1 (areas lent) (Ok (record { cells = 6; reads = 6 })) (areas (null ∷ null ∷ null ∷ known 41 ∷ known 51 ∷ known 61 ∷ known 9 ∷ []))
    ∷ check 1 (around (codes "$c + 1")) (accepts (extents roof_domain) (pos 1) (pos 101) 6)
    ∷ strip 0 1 strip1 (Err (shelf_says 19 (Two 0 1)))
    ∷ strip 0 1 strip1 (Ok tt)
    ∷ []

-- they are a life of a unit just switched on
pub record SuchALifeIsLed : Type 0 where
  pub on : SwitchedOn switched_on
  pub now : State
  pub life : Life switched_on calls now
