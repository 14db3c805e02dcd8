use Rattle.std.proofs.Common.{◌≡◌, true, not, ◌&&◌, None, ◌∙◌, rules}
use mathlib.Core.Path.{fun_ext}
use Rattle.coverage.specs.Axes.{extents, no_axes, set_axis}
use Rattle.language.specs.Fits.{a_number, fits_as}
use Rattle.language.specs.Faults.{position_inside, slice_fault}
use Rattle.checking.proofs.Turns.{passed}
use Rattle.checking.proofs.subsets.slice_rule.Goals as goal

pub returns : goal.returns
unfolding slice_fault
returns c =
    let p = c.args.operand.typed in
    let q = c.args.position.typed in
    let inside : not c.args.twice && position_inside (extents p.domain c.args.axis) q.kind ≡ true = search rules in
    let fit : fits_as a_number q.kind && no_axes (extents q.domain) ≡ true = search rules in
    let cut : extents c.with.result ≡ set_axis (extents p.domain) c.args.axis None = fun_ext c.with.ensures in
    c.within_reads.ensures ∙ rw cut (passed _ 7 c.args.place _ _ fit ∙ passed _ 6 c.args.place _ _ inside)
