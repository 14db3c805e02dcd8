use Rattle.std.proofs.Common.{◌≡◌, ℤ, Ok, Err, Option, Result, sym, ap, ◌∙◌}
use Rattle.std.proofs.lemmas.Result.{err_from_is_err_and}
use Rattle.coverage.specs.Axes.{coordinates}
use Rattle.shelf.specs.declared.fault.ShelfFault.{ShelfFault}
use Rattle.shelf_laws.specs.Single.{reached}
use Rattle.shelf_laws.proofs.Singles.{kept_by, look_reached, reached_in_lem, seen}
use Rattle.shelves.proofs.single.SingleShelf.look.Goals as goal

pub returns-in_err-about : goal.returns-in_err-about
returns-in_err-about g c =
    let me = c.args.self.now in
    let cell = g.C.Cells.cells me.cells in
    let p = coordinates c.args.at in
    let err : ShelfFault → Result (Option ℤ) ShelfFault = λ f. Err f in
    let e = err_from_is_err_and c.from_residual.result c.from_residual.ensures.1 in
    let r : reached me.about c.args.coverage p ≡ Err c.in_err-about.field-0.0 = sym c.reach.ensures ∙ c.in_err-about.was in
    e.1 ∙ (ap err e.2 ∙ sym (look_reached me.about cell c.args.coverage p ∙ ap (λ x. seen cell x p) r))

pub cell-requires : goal.cell-requires
cell-requires g c =
    let me = c.args.self.now in
    let a = c.in_ok-about.about in
    let r = reached_in_lem me.about c.args.coverage (coordinates c.args.at) a (sym c.reach.ensures ∙ c.in_ok-about.was) in
    record { kept = kept_by (g.C.Cells.keeps me.cells) me.about a me.kept r.0; inside = r.1 }

pub returns : goal.returns
returns g c =
    let me = c.args.self.now in
    let cell = g.C.Cells.cells me.cells in
    let p = coordinates c.args.at in
    let ok : Option ℤ → Result (Option ℤ) ShelfFault = λ x. Ok x in
    let is : reached me.about c.args.coverage p ≡ Ok c.in_ok-about.about = sym c.reach.ensures ∙ c.in_ok-about.was in
    ap ok c.cell.ensures ∙ sym (look_reached me.about cell c.args.coverage p ∙ ap (λ x. seen cell x p) is)
