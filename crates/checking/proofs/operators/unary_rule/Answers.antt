use Rattle.std.proofs.Common.{◌≡◌, true, ◌∙◌, rules}
use Rattle.language.specs.Fits.{fits_as, unary_expects}
use Rattle.language.specs.Faults.{unary_fault}
use Rattle.checking.proofs.Turns.{passed}
use Rattle.checking.proofs.operators.unary_rule.Goals as goal

pub returns : goal.returns
unfolding unary_fault
returns c =
    let fits : fits_as (unary_expects c.args.o) c.args.operand.typed.kind ≡ true = search rules in
    c.within_limits.ensures ∙ rw c.unary_kind.ensures (passed _ 7 c.args.place _ _ fits)
