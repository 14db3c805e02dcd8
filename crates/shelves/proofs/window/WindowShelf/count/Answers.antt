use Rattle.std.proofs.Common.{ap, ◌∙◌}
use mir.Val.{bool_byte}
use Rattle.std.specs.List.{slice_get}
use Rattle.std.specs.Result.{is_ok}
use Rattle.shelf_laws.proofs.WindowCalls.{window_counted}
use Rattle.shelves.proofs.window.WindowShelf.count.Goals as goal

pub returns : goal.returns
returns g c =
    let me = c.args.self.now in
    c.from.ensures
    ∙ (ap bool_byte (c.is_ok.ensures.value ∙ ap is_ok c.view.ensures) ∙ window_counted (slice_get (g.S.Shelf.meaning me.below.now) me.coverage) me.coverage me.cut)
