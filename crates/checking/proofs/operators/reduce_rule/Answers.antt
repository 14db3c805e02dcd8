use Rattle.std.proofs.Common.{◌≡◌, ◌*◌, true, ◌∙◌, arith, rules}
use Rattle.coverage.specs.Axes.{cells, extents, no_extents}
use Rattle.language.specs.Fits.{fits_as, reduce_expects}
use Rattle.language.specs.Faults.{reduce_fault}
use Rattle.language.specs.Spans.{reduce_kind}
use Rattle.checking.proofs.Turns.{limited_as, no_extents_lem, passed}
use Rattle.checking.proofs.operators.reduce_rule.Goals as goal

pub returns : goal.returns
unfolding reduce_fault
returns c =
    let t = c.args.operand.typed in
    let m = cells (extents t.domain) in
    let fits : fits_as (reduce_expects c.args.o) t.kind ≡ true = search rules in
    c.within_limits.ensures
    ∙ limited_as c.args.place _ no_extents _ (reduce_kind c.args.o m t.kind) _ (m * t.promise) no_extents_lem c.reduce_kind.ensures (grind arith)
    ∙ passed _ 7 c.args.place _ _ fits
