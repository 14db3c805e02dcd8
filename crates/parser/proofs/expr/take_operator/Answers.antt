use Rattle.std.proofs.Common.{refl, sym, ◌∙◌}
use Rattle.parser.proofs.expr.take_operator.Goals as goal

pub returns-in_err-o-clause-read : goal.returns-in_err-o-clause-read
returns-in_err-o-clause-read c =
    rw c.from_residual.ensures (record { next = c.peek-t.result; peeked = c.peek-t.ensures; told = sym c.in_err-o.was ∙ c.joining.ensures; moved = refl })
