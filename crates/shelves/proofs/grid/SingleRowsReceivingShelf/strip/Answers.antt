use Rattle.std.proofs.Common.{◌≡◌, ◌*◌, true, false, not, length, get_or, pos, Err, Result, sym, ap, ◌∙◌, subst, arith, w32, SFits, rules}
use lib.Seq.{paste}
use Rattle.std.specs.Option.{option_map_or}
use Rattle.std.proofs.lemmas.Result.{err_from_is_err_and}
use Rattle.coverage.specs.Axes.{extents}
use Rattle.coverage.specs.Strips.{row_width}
use Rattle.coverage.proofs.Bounds.{describable_by, few_cells}
use Rattle.shelf.specs.declared.fault.ShelfFault.{ShelfFault}
use Rattle.shelf.specs.declared.fault.ShelfFault.TheVariants.{AlreadyThere}
use Rattle.shelf.specs.Meaning.{shape_fault, strip_there}
use Rattle.shelf.proofs.Answering.{none_from, some_from}
use Rattle.shelf.proofs.Single.{refused_is}
use Rattle.shelf_laws.specs.Grid.{grid_coverage, grid_keeps, grid_meaning, is_null}
use Rattle.shelf_laws.proofs.Cells.{null_no, null_yes}
use Rattle.shelf_laws.proofs.Grids.{Kept, fault_shape, fault_there, held_is, held_kept, kept_holds, kept_ordered, kept_put, place, strip_there_lem, taken_is, written}
use Rattle.shelves.proofs.grid.SingleRowsReceivingShelf.strip.Goals as goal

pub check_shape-requires : goal.check_shape-requires
check_shape-requires c =
    let me = c.args.self.now in
    (held_kept me.about c.in_ok-about.about me.cells.lent.now c.args.coverage c.args.strip (sym c.held.ensures ∙ c.in_ok-about.was) me.kept).described

pub returns-in_err-check_shape : goal.returns-in_err-check_shape
returns-in_err-check_shape c =
    let me = c.args.self.now in
    let cs = me.cells.lent.now in
    let a = c.in_ok-about.about in
    let n = c.args.strip in
    let row = c.args.cells.now in
    let f = c.in_err-check_shape.field-0.0 in
    let e = err_from_is_err_and c.from_residual-in_err-check_shape.result c.from_residual-in_err-check_shape.ensures.1 in
    let err : ShelfFault → Result (Unit {0}) ShelfFault = λ g. Err g in
    let told = some_from (shape_fault a c.args.coverage n row) f (sym c.check_shape.ensures ∙ c.in_err-check_shape.was) in
    let r = refused_is (grid_meaning me.about cs) c.args.coverage n row f (fault_shape me.about a cs row c.args.coverage n (sym c.held.ensures ∙ c.in_ok-about.was) f told) in
    record { answer = e.1 ∙ (ap err e.2 ∙ r.0); after = r.1 }

pub strip_start-at-requires-clause-ordered : goal.strip_start-at-requires-clause-ordered
strip_start-at-requires-clause-ordered c =
    let me = c.args.self.now in
    let a = c.in_ok-about.about in
    kept_ordered a me.cells.lent.now (held_kept me.about a me.cells.lent.now c.args.coverage c.args.strip (sym c.held.ensures ∙ c.in_ok-about.was) me.kept)

pub strip_start-at-requires-clause-few : goal.strip_start-at-requires-clause-few
strip_start-at-requires-clause-few c =
    let me = c.args.self.now in
    let a = c.in_ok-about.about in
    let k = held_kept me.about a me.cells.lent.now c.args.coverage c.args.strip (sym c.held.ensures ∙ c.in_ok-about.was) me.kept in
    few_cells (extents a.domain) (describable_by a k.described).cells_few

pub offset_bounds-self-at : goal.offset_bounds-self-at
offset_bounds-self-at c =
    let me = c.args.self.now in
    let a = c.in_ok-about.about in
    let cs = me.cells.lent.now in
    let k = held_kept me.about a cs c.args.coverage c.args.strip (sym c.held.ensures ∙ c.in_ok-about.was) me.kept in
    let none = none_from (shape_fault a c.args.coverage c.args.strip c.args.cells.now) (sym c.check_shape.ensures ∙ c.in_ok-check_shape.was) in
    let p = place a cs c.args.cells.now c.args.coverage c.args.strip k none in
    let at = c.strip_start-at.ensures in
    search rules

pub bounds-self-at : goal.bounds-self-at
bounds-self-at c =
    let me = c.args.self.now in
    let a = c.in_ok-about.about in
    let cs = me.cells.lent.now in
    let k = held_kept me.about a cs c.args.coverage c.args.strip (sym c.held.ensures ∙ c.in_ok-about.was) me.kept in
    let none = none_from (shape_fault a c.args.coverage c.args.strip c.args.cells.now) (sym c.check_shape.ensures ∙ c.in_ok-check_shape.was) in
    omega (arith, c.strip_start-at.ensures, (place a cs c.args.cells.now c.args.coverage c.args.strip k none).begins)

pub returns-then-self-at : goal.returns-then-self-at
returns-then-self-at c =
    let me = c.args.self.now in
    let a = c.in_ok-about.about in
    let cs = me.cells.lent.now in
    let row = c.args.cells.now in
    let n = c.args.strip in
    let named = sym c.held.ensures ∙ c.in_ok-about.was in
    let k = held_kept me.about a cs c.args.coverage n named me.kept in
    let none = none_from (shape_fault a c.args.coverage n row) (sym c.check_shape.ensures ∙ c.in_ok-check_shape.was) in
    let p = place a cs row c.args.coverage n k none in
    let full : is_null (get_or cs (n * row_width (extents a.domain)) (pos 0)) ≡ false =
    ap (λ i. is_null (get_or cs i (pos 0))) (sym c.strip_start-at.ensures) ∙ null_no (get_or cs c.strip_start-at.result (pos 0)) c.if-self-at.true in
    let there : strip_there (grid_coverage a cs) n ≡ true = strip_there_lem a cs n k p.shape.below ∙ ap not full in
    let r = refused_is (grid_meaning me.about cs) c.args.coverage n row (AlreadyThere c.args.coverage n) (fault_there me.about a cs row c.args.coverage n named true none there) in
    record { answer = r.0; after = r.1 }

pub put-requires : goal.put-requires
put-requires c =
    let me = c.args.self.now in
    let a = c.in_ok-about.about in
    let cs = me.cells.lent.now in
    let k = held_kept me.about a cs c.args.coverage c.args.strip (sym c.held.ensures ∙ c.in_ok-about.was) me.kept in
    let none = none_from (shape_fault a c.args.coverage c.args.strip c.args.cells.now) (sym c.check_shape.ensures ∙ c.in_ok-check_shape.was) in
    omega (arith, c.strip_start-at.ensures, (place a cs c.args.cells.now c.args.coverage c.args.strip k none).room)

pub invariant_of-self : goal.invariant_of-self
invariant_of-self c =
    let me = c.args.self.now in
    let a = c.in_ok-about.about in
    let cs = me.cells.lent.now in
    let row = c.args.cells.now in
    let n = c.args.strip in
    let named = sym c.held.ensures ∙ c.in_ok-about.was in
    let k = held_kept me.about a cs c.args.coverage n named me.kept in
    let none = none_from (shape_fault a c.args.coverage n row) (sym c.check_shape.ensures ∙ c.in_ok-check_shape.was) in
    let f = (place a cs row c.args.coverage n k none).shape in
    let after = c.put.new.self.lent.now in
    let put : written a cs row n k f.below f.wide f.fit ≡ after = sym (c.put.ensures ∙ ap (λ i. paste cs i row (length row)) c.strip_start-at.ensures) in
    record { kept = ap (λ o. option_map_or (grid_keeps after) o true) (held_is me.about a c.args.coverage n named).0 ∙ kept_holds a after (subst (Kept a) put (kept_put a cs row n k f.below f.wide f.fit)) }

pub returns : goal.returns
returns c =
    let me = c.args.self.now in
    let a = c.in_ok-about.about in
    let cs = me.cells.lent.now in
    let row = c.args.cells.now in
    let n = c.args.strip in
    let named = sym c.held.ensures ∙ c.in_ok-about.was in
    let k = held_kept me.about a cs c.args.coverage n named me.kept in
    let none = none_from (shape_fault a c.args.coverage n row) (sym c.check_shape.ensures ∙ c.in_ok-check_shape.was) in
    let v = get_or cs c.strip_start-at.result (pos 0) in
    let sv : SFits w32 v = search rules in
    let empty : is_null (get_or cs (n * row_width (extents a.domain)) (pos 0)) ≡ true =
    ap (λ i. is_null (get_or cs i (pos 0))) (sym c.strip_start-at.ensures) ∙ null_yes v sv c.if-self-at.false in
    let there : strip_there (grid_coverage a cs) n ≡ false = strip_there_lem a cs n k (place a cs row c.args.coverage n k none).shape.below ∙ ap not empty in
    let put : c.put.new.self.lent.now ≡ paste cs (n * row_width (extents a.domain)) row (length row) = c.put.ensures ∙ ap (λ i. paste cs i row (length row)) c.strip_start-at.ensures in
    let r = taken_is me.about a cs row c.args.coverage n named c.put.new.self.lent.now k none there put in
    record { answer = r.0; after = r.1 }
