use Rattle.std.proofs.Common.{arith}
use Rattle.std.proofs.lemmas.Int.{ints, to_z-of_z}
use Rattle.language.specs.Spans.{corners}
use Rattle.spans.proofs.arithmetic.corners.Goals as goal

pub returns : goal.returns
unfolding corners
returns c = search (arith, ints, to_z-of_z, c.hull.ensures, c.row.ensures, c.row-2.ensures)
