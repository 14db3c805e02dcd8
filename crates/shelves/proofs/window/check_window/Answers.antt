use Rattle.std.specs.List.{slice_get}
use Rattle.shelf_laws.proofs.WindowCalls.{window_answer}
use Rattle.shelves.proofs.window.check_window.Goals as goal

pub returns : goal.returns
returns g c =
    window_answer _ (slice_get (g.S.Shelf.meaning c.args.below.now) c.args.coverage) c.args.coverage c.args.cut
    c.view.result c.map.result c.view.ensures c.map.ensures.variant c.map.ensures.cases
