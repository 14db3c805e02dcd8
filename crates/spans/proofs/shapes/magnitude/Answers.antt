use Rattle.std.proofs.Common.{arith}
use Rattle.std.proofs.lemmas.Int.{ints, to_z-of_z}
use Rattle.spans.proofs.shapes.magnitude.Goals as goal

pub returns : goal.returns
returns c = search (arith, ints, to_z-of_z, c.negation-opposite.ensures, c.max.ensures.value, c.max-2.ensures.value, c.max-3.ensures.value)
