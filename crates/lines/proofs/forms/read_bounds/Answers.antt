use Rattle.std.proofs.Common.{arith}
use Rattle.lines.proofs.Joins.{joined}
use Rattle.lines.proofs.forms.read_bounds.Goals as goal

pub returns : goal.returns
returns c =
    let a = c.in_ok-literal.ensures.read in
    let n = c.in_ok-lo.ensures.read in
    let b = c.in_ok-literal-2.ensures.read in
    let m = c.in_ok-hi.ensures.read in
    let q = c.in_ok-literal-3.ensures.read in (
      _,
      joined a.1 (joined n.1 (joined b.1 (joined m.1 q.1))),
      record { lo = n.0; hi = m.0; text = cc (a.2, b.2, q.2); lo_number = n.2.0; hi_number = m.2.0; told = grind (arith, n.2, m.2) },
    )
