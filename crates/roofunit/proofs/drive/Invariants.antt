use Rattle.roofunit.specs.Answers.{Led}
use Rattle.roofunit.proofs.drive.Given as goal

abbrev pub invariant-loop-line : goal.invariant-loop-line
invariant-loop-line g l = Led (g.S.Shelf.meaning l.initial.shelf) (g.S.Shelf.meaning l.shelf)
