use Rattle.std.proofs.Common.{◌≡◌, List, length}
use Rattle.parser.specs.Actions.{filled}
use Rattle.parser.specs.Lists.{Gives, Chain}
use Rattle.parser.proofs.lists.fill.Given as goal

-- the items that were read so far fill the first slots
abbrev pub invariant-loop-slot : goal.invariant-loop-slot
invariant-loop-slot g l = (xs : List g.row.T.Denot) × Chain (Gives g.F.Fn l.fn.one) l.initial.from l.from xs × (l.slot-items ≡ filled xs l.initial.slot-items) × (l.slot-index ≡ length xs)
