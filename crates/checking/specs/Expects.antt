-- What a rule expects of an operand, in the words of the language's definitions.
use Rattle.language.specs.Fits.{Expected, a_number, a_truth}
use Rattle.checking.specs.declared.fits.Expected.{Expected as InCode}
use Rattle.checking.specs.declared.fits.Expected.TheVariants.{Number, Truth}

abbrev pub expected : InCode → Expected
expected Number = a_number
expected Truth = a_truth
