-- Why a call or a making was refused, in a sentence for people.
use Rattle.std.specs.Prelude.{ℕ, List, codes}
use Rattle.shelf.specs.declared.fault.ShelfFault.{ShelfFault}
use Rattle.shelf.specs.declared.fault.ShelfFault.TheVariants as call
use Rattle.shelf.specs.declared.fault.MakingFault.{MakingFault}
use Rattle.shelf.specs.declared.fault.MakingFault.TheVariants as making

abbrev pub shelf_sentence : ShelfFault → List ℕ
shelf_sentence (call.NoCoverage c n) = codes "There is no coverage with this number."
shelf_sentence (call.Outside c) = codes "The cell lies outside the domain of the coverage."
shelf_sentence (call.Fixed c n) = codes "The coverage takes no strips."
shelf_sentence (call.NoStrip c n) = codes "The coverage has no strip with this number."
shelf_sentence (call.Unfit c n) = codes "The strip has not as many cells as a row, or one of them is not of the kind."
shelf_sentence (call.AlreadyThere c n) = codes "The strip was put before."

abbrev pub making_sentence : MakingFault → List ℕ
making_sentence making.NoName = codes "A name is a letter and up to 15 more letters, digits or underscores."
making_sentence making.OutOfBounds = codes "The lowest is above the highest, or a coordinate lies beyond 1,000,000 on either side of 0."
making_sentence making.WideSpan = codes "A span reaches at most 2,147,483,647 on either side of 0."
making_sentence making.ManyCells = codes "A grid has at most 65,536 cells."
making_sentence (making.WrongLength n) = codes "The memory has another length than the cells of the grid."
making_sentence (making.NoCoverage c) = codes "There is no coverage with this number."
