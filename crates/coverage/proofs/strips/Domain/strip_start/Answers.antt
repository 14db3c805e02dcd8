use Rattle.std.proofs.Common.{ap, ◌∙◌}
use Rattle.coverage.specs.Axes.{extents, inside_b, number_at}
use Rattle.coverage.specs.Strips.{strip_first}
use Rattle.coverage.proofs.Points.{inside_test}
use Rattle.coverage.proofs.Bounds.{sized}
use Rattle.coverage.proofs.Standing.{strip_first_holds}
use Rattle.coverage.proofs.strips.Domain.strip_start.Goals as goal

pub strip_first-requires : goal.strip_first-requires
strip_first-requires c = record { sized = sized (extents c.args.self) c.requires.ordered c.requires.few }

pub cell_number-requires : goal.cell_number-requires
cell_number-requires c =
    let d = extents c.args.self in
    let s = strip_first_holds d c.requires.ordered c.args.n c.requires.below in
    record { inside = ap (inside_b d) c.strip_first.ensures ∙ inside_test d (strip_first d c.args.n) s.0; few = c.requires.few }

pub returns : goal.returns
returns c =
    let d = extents c.args.self in
    c.cell_number.ensures.number ∙ (ap (number_at d) c.strip_first.ensures ∙ (strip_first_holds d c.requires.ordered c.args.n c.requires.below).1)
