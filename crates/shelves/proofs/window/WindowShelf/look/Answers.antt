use Rattle.std.proofs.Common.{ℤ, Err, Option, Result, sym, ap, ◌∙◌, rules}
use Rattle.std.specs.List.{slice_get}
use Rattle.std.proofs.lemmas.Result.{err_from_is_err_and}
use Rattle.coverage.specs.Axes.{coordinates}
use Rattle.shelf.specs.declared.fault.ShelfFault.{ShelfFault}
use Rattle.shelf.specs.Faults.{told}
use Rattle.shelf.proofs.Numbers.{renumbered_told}
use Rattle.shelf_laws.specs.Window.{view_on, window_meaning}
use Rattle.shelf_laws.proofs.WindowCalls.{look_absent, seen_shown, unseen}
use Rattle.shelf_laws.proofs.Views.{view_beyond, view_looked}
use Rattle.shelves.proofs.window.WindowShelf.look.Goals as goal

pub returns-in_err-view : goal.returns-in_err-view
returns-in_err-view g c =
    let me = c.args.self.now in
    let m = g.S.Shelf.meaning me.below.now in
    let u = unseen m me.coverage me.cut c.args.coverage 0 c.in_err-view.field-0.0 (sym c.seen.ensures ∙ c.in_err-view.was) in
    let e = err_from_is_err_and c.from_residual.result c.from_residual.ensures.1 in
    let err : ShelfFault → Result (Option ℤ) ShelfFault = λ f. Err f in
    e.1 ∙ (ap err (e.2 ∙ u.0) ∙ look_absent (window_meaning m me.coverage me.cut) c.args.coverage (coordinates c.args.at) u.1)

pub returns-then-not-contains : goal.returns-then-not-contains
returns-then-not-contains g c =
    let me = c.args.self.now in
    let m = g.S.Shelf.meaning me.below.now in
    let v = c.in_ok-view.view in
    let shown = seen_shown (view_on (slice_get m me.coverage) me.coverage me.cut) c.args.coverage 0 v (sym c.seen.ensures ∙ c.in_ok-view.was) in
    view_beyond m me.coverage me.cut v shown.0 (g.S.Shelf.lawful me.below.now) c.args.coverage shown.1 (coordinates c.args.at) (sym c.if-not-contains.ensures)

pub returns : goal.returns
returns g c =
    let me = c.args.self.now in
    let m = g.S.Shelf.meaning me.below.now in
    let v = c.in_ok-view.view in
    let shown = seen_shown (view_on (slice_get m me.coverage) me.coverage me.cut) c.args.coverage 0 v (sym c.seen.ensures ∙ c.in_ok-view.was) in
    renumbered_told _ c.look.result c.map_err.result c.args.coverage 0 c.map_err.ensures.cases (λ e f p. search rules)
    ∙ (ap (λ r. told r c.args.coverage 0) c.look.ensures
    ∙ view_looked m me.coverage me.cut v shown.0 (g.S.Shelf.lawful me.below.now) c.args.coverage shown.1 (coordinates c.args.at) (sym c.if-not-contains.ensures))
