use Rattle.std.proofs.Common.{◌≡◌, ◌-◌, length}
use Rattle.lexer.specs.Toks.{toks, first_bad}
use Rattle.lexer.proofs.faults.first_bad.Given as goal

abbrev pub invariant-loop-from : goal.invariant-loop-from
invariant-loop-from l = first_bad (toks l.from.text.now l.from.at) ≡ first_bad (toks l.text 0)

abbrev pub decreases-loop-from : goal.decreases-loop-from
decreases-loop-from l = length l.from.text.now - l.from.at
