use Rattle.std.proofs.Common.{sym, ap, ◌∙◌}
use Rattle.shelf.specs.Meaning.{find_answer}
use Rattle.shelf_laws.proofs.Finds.{then_cond}
use Rattle.shelf_laws.proofs.WindowCalls.{hidden, hidden_by, shown_by}
use Rattle.shelf_laws.proofs.Views.{view_found}
use Rattle.shelves.proofs.window.WindowShelf.find.Goals as goal

pub returns-in_err-view : goal.returns-in_err-view
returns-in_err-view g c =
    let me = c.args.self.now in
    let h = hidden_by c.view.result (sym c.ok.ensures.value ∙ c.in_err-view.was) in
    c.from_residual.ensures
    ∙ sym (ap (λ w. find_answer w c.args.name.now) (hidden (g.S.Shelf.meaning me.below.now) me.coverage me.cut h.0 (h.1 ∙ c.view.ensures)))

pub returns : goal.returns
returns g c =
    let me = c.args.self.now in
    let v = c.in_ok-view.view in
    let shown = shown_by c.view.result v (sym c.ok.ensures.value ∙ c.in_ok-view.was) ∙ c.view.ensures in
    c.then_some.ensures
    ∙ (then_cond c.is.result 0 ∙ sym (view_found (g.S.Shelf.meaning me.below.now) me.coverage me.cut v shown (g.S.Shelf.lawful me.below.now) c.args.name.now c.is.result (sym c.is.ensures)))
