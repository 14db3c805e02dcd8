use Rattle.std.proofs.Common.{◌≡◌, ◌+◌, ◌*◌, refl, true, ◌&&◌, ◌∙◌, arith, rules}
use Rattle.coverage.specs.Axes.{cells, extents, no_extents}
use Rattle.language.specs.Faults.{body_fits, condense_fault, condense_where_fault, where_fits}
use Rattle.language.specs.Spans.{fold_kind, widened}
use Rattle.checking.proofs.Turns.{limited_as, no_extents_lem, passed}
use Rattle.checking.proofs.forms.condense_rule.Goals as goal
use Rattle.checking.proofs.forms.condense_rule.Goals.{in-Some, in-None}

pub returns : goal.returns
unfolding condense_fault condense_where_fault
returns c =
    let b = c.args.body.typed in
    let m = cells (extents c.args.over) in
    let k = fold_kind c.args.o m b.kind in
    elim c.match-test.branch [
      | in-Some w ↦
          let t = w.in-Some.test.typed in
          let fit : where_fits (extents t.domain) t.kind && body_fits c.args.o (extents b.domain) b.kind ≡ true = search rules in
          rw w.in-Some.is (c.within_limits.ensures
          ∙ limited_as c.args.place _ no_extents _ (widened c.args.o k) _ (m * (t.promise + b.promise)) no_extents_lem (rw (w.kind-is, w.widened_kind.ensures, c.fold_kind-kind.ensures, c.cells_of-n.ensures) refl) (grind arith)
          ∙ passed _ 7 c.args.place _ _ fit)
      | in-None w ↦
          let fit : body_fits c.args.o (extents b.domain) b.kind ≡ true = search rules in
          rw w.in-None.is (c.within_limits.ensures
          ∙ limited_as c.args.place _ no_extents _ k _ (m * b.promise) no_extents_lem (rw (w.kind-is, c.fold_kind-kind.ensures, c.cells_of-n.ensures) refl) (grind arith)
          ∙ passed _ 7 c.args.place _ _ fit)
    ]
