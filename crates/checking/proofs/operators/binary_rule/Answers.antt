use Rattle.std.proofs.Common.{◌≡◌, true, not, ◌&&◌, ◌∙◌, rules}
use Rattle.coverage.specs.Axes.{extents}
use Rattle.language.specs.Fits.{operands_fit}
use Rattle.language.specs.Spans.{holds_zero, span_of}
use Rattle.language.specs.Faults.{binary_fault, domains_fit, is_division}
use Rattle.checking.proofs.Turns.{passed}
use Rattle.checking.proofs.operators.binary_rule.Goals as goal

pub returns : goal.returns
unfolding binary_fault
returns c =
    let l = c.args.left.typed in
    let r = c.args.right.typed in
    let fit : operands_fit c.args.o l.kind r.kind && domains_fit (extents l.domain) (extents r.domain) ≡ true = search rules in
    let apart : not (is_division c.args.o && holds_zero (span_of r.kind)) ≡ true = search rules in
    c.within_limits.ensures ∙ rw (c.joint.ensures, c.binary_kind.ensures) (passed _ 8 c.args.place _ _ apart ∙ passed _ 7 c.args.place _ _ fit)
