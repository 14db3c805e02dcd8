-- What replies tell: the bytes of the line, and the fault, if any.
use Rattle.std.specs.Prelude.{◌≡◌, ℕ, List, ℤ, Some, None, Ok, Err, string_bytes, Option, Result}
use Rattle.shelf.specs.declared.fault.ShelfFault.{ShelfFault}
use Rattle.shelf.specs.declared.fault.MakingFault.{MakingFault}
use Rattle.written.specs.Format.{grid_line, strip_line, cell_line, refusal_line}
use Rattle.roofunit.specs.declared.fault.Fault.{Fault}
use Rattle.roofunit.specs.declared.fault.Fault.TheVariants.{Making, Shelf}
use Rattle.roofunit.specs.declared.reply.Reply.{Reply}
use Rattle.roofunit.specs.Faults.{refusal_of}

-- a reply has these bytes and tells no refusal
pub record Plain (bs : List ℕ) (p : Reply) : Type 0 where
  pub bytes : string_bytes p.line ≡ bs
  pub no_fault : p.refused ≡ None

-- a reply tells a fault as its refusal, byte for byte, and has the fault
pub record Refuses (f : Fault) (p : Reply) : Type 0 where
  pub bytes : string_bytes p.line ≡ refusal_line (refusal_of f)
  pub fault : p.refused ≡ Some f

-- a grid was made, as coverage 0, or refused
abbrev pub GridTold : Result (Unit {0}) MakingFault → Reply → Type 0
GridTold (Ok u) p = Plain (grid_line 0) p
GridTold (Err f) p = Refuses (Making f) p

-- a strip was put or refused
abbrev pub StripTold : ℕ → ℕ → Result (Unit {0}) ShelfFault → Reply → Type 0
StripTold c n (Ok u) p = Plain (strip_line c n) p
StripTold c n (Err f) p = Refuses (Shelf f) p

-- a cell was looked at, or the look refused
abbrev pub LookTold : Result (Option ℤ) ShelfFault → Reply → Type 0
LookTold (Ok cell) p = Plain (cell_line cell) p
LookTold (Err f) p = Refuses (Shelf f) p

-- a picture was drawn, or refused
abbrev pub ShowTold : {A : Type 0} → Result A ShelfFault → Reply → Type 0
ShowTold (Ok about) p = p.refused ≡ None
ShowTold (Err f) p = Refuses (Shelf f) p
