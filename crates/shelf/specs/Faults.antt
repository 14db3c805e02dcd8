-- How the faults of shelves and of their makings are told: the layer is shelf, the number that of the
-- cause, and what is returned the coverage and strip of the call, or for a making the place 0 or a length.
use Rattle.std.specs.Prelude.{ℕ, Ok, Err, Result}
use Rattle.coverage.specs.declared.refusal.Layer.TheVariants.{Shelf}
use Rattle.coverage.specs.declared.refusal.Returned.{Returned}
use Rattle.coverage.specs.declared.refusal.Returned.TheVariants.{One, Two}
use Rattle.coverage.specs.declared.refusal.Refusal.{Refusal}
use Rattle.shelf.specs.declared.fault.ShelfFault.{ShelfFault}
use Rattle.shelf.specs.declared.fault.ShelfFault.TheVariants as call
use Rattle.shelf.specs.declared.fault.MakingFault.{MakingFault}
use Rattle.shelf.specs.declared.fault.MakingFault.TheVariants as making

abbrev pub shelf_says : ℕ → Returned → Refusal
shelf_says n r = record { layer = Shelf; number = n; returned = r }

abbrev pub shelf_refusal : ShelfFault → Refusal
shelf_refusal (call.NoCoverage c n) = shelf_says 14 (Two c n)
shelf_refusal (call.Outside c) = shelf_says 15 (Two c 0)
shelf_refusal (call.Fixed c n) = shelf_says 16 (Two c n)
shelf_refusal (call.NoStrip c n) = shelf_says 17 (Two c n)
shelf_refusal (call.Unfit c n) = shelf_says 18 (Two c n)
shelf_refusal (call.AlreadyThere c n) = shelf_says 19 (Two c n)

abbrev pub making_refusal : MakingFault → Refusal
making_refusal making.NoName = shelf_says 5 (One 0)
making_refusal making.OutOfBounds = shelf_says 6 (One 0)
making_refusal making.WideSpan = shelf_says 9 (One 0)
making_refusal making.ManyCells = shelf_says 10 (One 0)
making_refusal (making.WrongLength n) = shelf_says 13 (One n)
making_refusal (making.NoCoverage c) = shelf_says 14 (Two c 0)

-- the same fault, told under another coverage's and another strip's number
abbrev pub renumbered : ShelfFault → ℕ → ℕ → ShelfFault
renumbered (call.NoCoverage _ _) c n = call.NoCoverage c n
renumbered (call.Outside _) c n = call.Outside c
renumbered (call.Fixed _ _) c n = call.Fixed c n
renumbered (call.NoStrip _ _) c n = call.NoStrip c n
renumbered (call.Unfit _ _) c n = call.Unfit c n
renumbered (call.AlreadyThere _ _) c n = call.AlreadyThere c n

-- an answer with its fault told so
abbrev pub told : {V : Type 0} → Result V ShelfFault → ℕ → ℕ → Result V ShelfFault
told (Ok v) c n = Ok v
told (Err f) c n = Err (renumbered f c n)
