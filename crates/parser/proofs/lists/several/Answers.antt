use Rattle.std.proofs.Common.{inl, inr, refl}
use Rattle.std.proofs.lemmas.Result.{err_from_is_err_and}
use Rattle.parser.proofs.lists.several.Goals as goal

pub returns-in_err-first : goal.returns-in_err-first
returns-in_err-first g c =
    let x = err_from_is_err_and c.from_residual.result c.from_residual.ensures.1 in
    rw (x.1, x.2) (inl (record { shown = _; left = _; met = c.in_err-first.ensures; shows = refl; leaves = refl }))

pub returns-in_err-fill : goal.returns-in_err-fill
returns-in_err-fill g c =
    let x = err_from_is_err_and c.from_residual-in_err-fill.result c.from_residual-in_err-fill.ensures.1 in
    rw (x.1, x.2) (inr (c.one.new.arg2, c.in_ok-first.first, record { shown = _; left = _; met = c.in_ok-first.ensures; shows = refl; leaves = refl }, c.in_err-fill.ensures))

pub returns : goal.returns
returns g c = (c.one.new.arg2, record { shown = _; left = _; met = c.in_ok-first.ensures; shows = refl; leaves = refl }, c.in_ok-fill.ensures)
