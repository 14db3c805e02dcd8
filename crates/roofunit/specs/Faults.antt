-- How the fault of a line is told, to the program and to people.
use Rattle.std.specs.Prelude.{ℕ, List}
use Rattle.coverage.specs.declared.refusal.Refusal.{Refusal}
use Rattle.shelf.specs.Faults.{shelf_refusal, making_refusal}
use Rattle.shelf.specs.Sentences.{shelf_sentence, making_sentence}
use Rattle.roofunit.specs.declared.fault.Fault.{Fault}
use Rattle.roofunit.specs.declared.fault.Fault.TheVariants.{Making, Shelf}

abbrev pub refusal_of : Fault → Refusal
refusal_of (Making f) = making_refusal f
refusal_of (Shelf f) = shelf_refusal f

abbrev pub sentence : Fault → List ℕ
sentence (Making f) = making_sentence f
sentence (Shelf f) = shelf_sentence f
