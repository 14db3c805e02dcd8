use Rattle.std.proofs.Common.{sym, ◌∙◌}
use Rattle.lines.proofs.Endings.{more_after, none_after}
use Rattle.lines.proofs.pieces.last.Goals as goal

pub returns-in-Some-clause-read : goal.returns-in-Some-clause-read
returns-in-Some-clause-read c = let r = c.in_ok-literal.ensures.read in more_after _ _ r.1 _ (sym c.byte.ensures ∙ c.in-Some.is)

pub returns-in-None-clause-read : goal.returns-in-None-clause-read
returns-in-None-clause-read c = let r = c.in_ok-literal.ensures.read in let e = none_after _ _ r.1 (sym c.byte.ensures ∙ c.in-None.is) in (e.0, e.1 ∙ r.2)
