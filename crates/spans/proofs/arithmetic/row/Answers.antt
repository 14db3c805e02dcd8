use Rattle.std.proofs.Common.{arith}
use Rattle.std.proofs.lemmas.Int.{ints, to_z-of_z}
use Rattle.spans.proofs.arithmetic.row.Goals as goal

pub returns : goal.returns
returns c = search (arith, ints, to_z-of_z, c.min.ensures.value, c.max.ensures.value, c.apply-q.ensures, c.apply-r.ensures)
