use Rattle.std.proofs.Common.{w64, arith, lit<}
use Rattle.std.proofs.lemmas.Int.{fits_signed_mul, ints, to_z-of_z}
use Rattle.language.specs.Limits.{widest}
use Rattle.language.specs.Operators.{quotient}
use Rattle.spans.proofs.Fitting.{quotient_fits}
use Rattle.spans.proofs.arithmetic.apply.Goals as goal

pub returns-in-Multiply : goal.returns-in-Multiply
returns-in-Multiply c =
    let fits = fits_signed_mul w64 c.args.p c.args.q widest widest c.requires.left c.requires.right (lit< tt) in
    search (arith, ints, to_z-of_z, c.in-Multiply.is)

pub returns-in-Divide : goal.returns-in-Divide
unfolding quotient
returns-in-Divide c =
    let fits = quotient_fits c.args.p c.args.q c.requires.left in
    search (arith, ints, to_z-of_z, c.in-Divide.is)
