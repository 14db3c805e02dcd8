use Rattle.std.proofs.Common.{Err, Result, sym, ap, ◌∙◌}
use Rattle.std.specs.List.{slice_get}
use Rattle.std.proofs.lemmas.Result.{err_from_is_err_and}
use Rattle.coverage.specs.declared.description.Description.{Description}
use Rattle.shelf.specs.declared.fault.ShelfFault.{ShelfFault}
use Rattle.shelf_laws.specs.Window.{view_on, window_meaning}
use Rattle.shelf_laws.proofs.WindowCalls.{describe_absent, seen_shown, unseen}
use Rattle.shelf_laws.proofs.Views.{view_described}
use Rattle.shelves.proofs.window.WindowShelf.describe.Goals as goal

pub returns-in_err-view : goal.returns-in_err-view
returns-in_err-view g c =
    let me = c.args.self.now in
    let m = g.S.Shelf.meaning me.below.now in
    let u = unseen m me.coverage me.cut c.args.coverage 0 c.in_err-view.field-0.0 (sym c.seen.ensures ∙ c.in_err-view.was) in
    let e = err_from_is_err_and c.from_residual.result c.from_residual.ensures.1 in
    let err : ShelfFault → Result Description ShelfFault = λ f. Err f in
    e.1 ∙ (ap err (e.2 ∙ u.0) ∙ describe_absent (window_meaning m me.coverage me.cut) c.args.coverage u.1)

pub returns : goal.returns
returns g c =
    let me = c.args.self.now in
    let m = g.S.Shelf.meaning me.below.now in
    let v = c.in_ok-view.view in
    let shown = seen_shown (view_on (slice_get m me.coverage) me.coverage me.cut) c.args.coverage 0 v (sym c.seen.ensures ∙ c.in_ok-view.was) in
    view_described m me.coverage me.cut v shown.0 (g.S.Shelf.lawful me.below.now) c.args.coverage shown.1
