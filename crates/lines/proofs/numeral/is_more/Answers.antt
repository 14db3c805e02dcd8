use Rattle.std.proofs.Common.{sym, ◌∙◌, subst}
use Rattle.lines.proofs.Compares.{significant, Significant, more}
use Rattle.lines.proofs.numeral.is_more.Goals as goal

pub returns : goal.returns
returns c = λ h k.
    let p = subst (Significant c.args.a.now) (sym c.significant-a.ensures) (significant c.args.a.now h) in
    let q = subst (Significant c.args.b.now) (sym c.significant-b.ensures) (significant c.args.b.now k) in
    c.gt.ensures ∙ more p q
