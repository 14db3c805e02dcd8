use Rattle.std.proofs.Common.{◌-◌, length}
use Rattle.lines.proofs.Numbers.{Listing}
use Rattle.lines.proofs.pieces.numerals.Given as goal

abbrev pub invariant-loop-from : goal.invariant-loop-from
invariant-loop-from l = Listing l.fn.from l.from

abbrev pub decreases-loop-from : goal.decreases-loop-from
decreases-loop-from l = length l.from.text.now - l.from.at
