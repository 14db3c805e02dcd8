use Rattle.std.proofs.Common.{◌≡◌, ◌<◌, ◌≤◌, Err, Result, sym, ap, ◌∙◌, subst, arith, rules}
use borrow.Author.Tests.{not-false, not-true}
use Rattle.std.specs.List.{slice_get}
use Rattle.std.proofs.lemmas.Result.{err_from_is_err_and}
use Rattle.coverage.specs.Axes.{Coordinates, Inside, extents}
use Rattle.coverage.specs.Strips.{strip_at, strips}
use Rattle.shelf.specs.declared.fault.ShelfFault.{ShelfFault}
use Rattle.shelf.specs.Faults.{told}
use Rattle.shelf.proofs.Numbers.{renumbered_told}
use Rattle.shelf.proofs.Shapes.{strips_counted}
use Rattle.shelf_laws.specs.Window.{view_on, window_meaning}
use Rattle.shelf_laws.proofs.WindowCalls.{seen_shown, strip_absent, unseen}
use Rattle.shelf_laws.proofs.Views.{view_describable, view_first, view_fixed, view_no_strip, view_sized, view_through, whole_strips}
use Rattle.shelves.proofs.window.WindowReceivingShelf.strip.Goals as goal

pub returns-in_err-view : goal.returns-in_err-view
returns-in_err-view g c =
    let me = c.args.self.now in
    let m = g.S.Shelf.meaning me.below.now in
    let n = c.args.strip in
    let u = unseen m me.coverage me.cut c.args.coverage n c.in_err-view.field-0.0 (sym c.seen.ensures ∙ c.in_err-view.was) in
    let e = err_from_is_err_and c.from_residual.result c.from_residual.ensures.1 in
    let err : ShelfFault → Result (Unit {0}) ShelfFault = λ f. Err f in
    let r = strip_absent (window_meaning m me.coverage me.cut) c.args.coverage n c.args.cells.now u.1 in
    record { answer = e.1 ∙ (ap err (e.2 ∙ u.0) ∙ r.0); after = r.1 }

pub returns-then-not-view : goal.returns-then-not-view
returns-then-not-view g c =
    let me = c.args.self.now in
    let m = g.S.Shelf.meaning me.below.now in
    let v = c.in_ok-view.view in
    let shown = seen_shown (view_on (slice_get m me.coverage) me.coverage me.cut) c.args.coverage c.args.strip v (sym c.seen.ensures ∙ c.in_ok-view.was) in
    let r = view_fixed m me.coverage me.cut v shown.0 (g.S.Shelf.lawful me.below.now) c.args.coverage shown.1 c.args.strip c.args.cells.now (not-true _ c.if-not-view.true) in
    record { answer = r.0; after = r.1 }

pub returns-then-strip-strips : goal.returns-then-strip-strips
returns-then-strip-strips g c =
    let me = c.args.self.now in
    let m = g.S.Shelf.meaning me.below.now in
    let v = c.in_ok-view.view in
    let shown = seen_shown (view_on (slice_get m me.coverage) me.coverage me.cut) c.args.coverage c.args.strip v (sym c.seen.ensures ∙ c.in_ok-view.was) in
    let law = g.S.Shelf.lawful me.below.now in
    let n : c.strips.result ≡ strips (extents v.about.domain) = c.strips.ensures ∙ strips_counted v.about (view_describable m me.coverage me.cut v shown.0 law) in
    let h : strips (extents v.about.domain) ≤ c.args.strip = omega (arith, n, c.if-strip-strips.true) in
    let r = view_no_strip m me.coverage me.cut v shown.0 law c.args.coverage shown.1 c.args.strip c.args.cells.now (not-false _ c.if-not-view.false) h in
    record { answer = r.0; after = r.1 }

pub strip_first-requires : goal.strip_first-requires
strip_first-requires g c =
    let me = c.args.self.now in
    let m = g.S.Shelf.meaning me.below.now in
    let v = c.in_ok-view.view in
    let shown = seen_shown (view_on (slice_get m me.coverage) me.coverage me.cut) c.args.coverage c.args.strip v (sym c.seen.ensures ∙ c.in_ok-view.was) in
    record { sized = view_sized m me.coverage me.cut v shown.0 (g.S.Shelf.lawful me.below.now) }

pub strip_number-below-requires : goal.strip_number-below-requires
strip_number-below-requires g c =
    let me = c.args.self.now in
    let m = g.S.Shelf.meaning me.below.now in
    let v = c.in_ok-view.view in
    let shown = seen_shown (view_on (slice_get m me.coverage) me.coverage me.cut) c.args.coverage c.args.strip v (sym c.seen.ensures ∙ c.in_ok-view.was) in
    let law = g.S.Shelf.lawful me.below.now in
    let n : c.strips.result ≡ strips (extents v.about.domain) = c.strips.ensures ∙ strips_counted v.about (view_describable m me.coverage me.cut v shown.0 law) in
    let h : c.args.strip < strips (extents v.about.domain) = omega (arith, n, c.if-strip-strips.false) in
    record {
      inside = subst (λ (p : Coordinates). Inside (extents v.whole) p) (sym c.strip_first.ensures) (view_first m me.coverage me.cut v shown.0 law c.args.strip h);
      few = whole_strips m me.coverage me.cut v shown.0 law;
    }

pub returns : goal.returns
returns g c =
    let me = c.args.self.now in
    let m = g.S.Shelf.meaning me.below.now in
    let v = c.in_ok-view.view in
    let shown = seen_shown (view_on (slice_get m me.coverage) me.coverage me.cut) c.args.coverage c.args.strip v (sym c.seen.ensures ∙ c.in_ok-view.was) in
    let law = g.S.Shelf.lawful me.below.now in
    let n : c.strips.result ≡ strips (extents v.about.domain) = c.strips.ensures ∙ strips_counted v.about (view_describable m me.coverage me.cut v shown.0 law) in
    let h : c.args.strip < strips (extents v.about.domain) = omega (arith, n, c.if-strip-strips.false) in
    let s = c.strip_number-below.ensures.number ∙ ap (strip_at (extents v.whole)) c.strip_first.ensures in
    let t = view_through m me.coverage me.cut v shown.0 law c.args.coverage shown.1 c.args.strip c.strip_number-below.result c.args.cells.now _ h s c.strip.ensures.after in
    record {
      answer =
          renumbered_told _ c.strip.result c.map_err.result c.args.coverage c.args.strip c.map_err.ensures.cases (λ e f p. search rules)
          ∙ (ap (λ r. told r c.args.coverage c.args.strip) c.strip.ensures.answer ∙ t.0);
      after = t.1;
    }
