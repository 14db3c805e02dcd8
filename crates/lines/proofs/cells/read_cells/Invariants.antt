use Rattle.std.proofs.Common.{vec_items}
use Rattle.lines.proofs.CellTexts.{Read_to}
use Rattle.lines.proofs.cells.read_cells.Given as goal

abbrev pub invariant-loop-at : goal.invariant-loop-at
invariant-loop-at l = Read_to l.text l.from l.at (vec_items l.cells)
