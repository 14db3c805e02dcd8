use Rattle.std.proofs.Common.{◌≡◌, ◌∙◌, arith}
use Rattle.std.proofs.lemmas.Bool.Decides.{nat_tests}
use Rattle.coverage.specs.Axes.{extents}
use Rattle.coverage.specs.Strips.{row_width}
use Rattle.shelf.proofs.Shapes.{width_counted}
use Rattle.shelf.proofs.fit.is_row.Goals as goal

pub returns-then-cells-row_width : goal.returns-then-cells-row_width
returns-then-cells-row_width c =
    let w : c.row_width.result ≡ row_width (extents c.args.about.domain) = c.row_width.ensures ∙ width_counted c.args.about c.requires in
    grind (arith, nat_tests)

pub returns-else-cells-row_width : goal.returns-else-cells-row_width
returns-else-cells-row_width c =
    let w : c.row_width.result ≡ row_width (extents c.args.about.domain) = c.row_width.ensures ∙ width_counted c.args.about c.requires in
    grind (arith, nat_tests)
