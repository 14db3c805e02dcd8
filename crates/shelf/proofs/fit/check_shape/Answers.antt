use Rattle.std.proofs.Common.{◌≡◌, ◌∙◌, arith}
use Rattle.std.proofs.lemmas.Bool.Decides.{nat_tests}
use Rattle.coverage.specs.Axes.{extents}
use Rattle.coverage.specs.Strips.{strips}
use Rattle.shelf.proofs.Shapes.{strips_counted}
use Rattle.shelf.proofs.fit.check_shape.Goals as goal

pub returns-then-strip-strips : goal.returns-then-strip-strips
returns-then-strip-strips c =
    let s : c.strips.result ≡ strips (extents c.args.about.domain) = c.strips.ensures ∙ strips_counted c.args.about c.requires in
    grind (arith, nat_tests)
