use Rattle.std.proofs.lemmas.Result.{err_from_is_err_and}
use Rattle.lines.proofs.Numbers.{found, number_found, number_stops}
use Rattle.lines.proofs.pieces.numeral.Goals as goal

pub returns-in_err-digits-clause-read : goal.returns-in_err-digits-clause-read
returns-in_err-digits-clause-read c =
    let e = err_from_is_err_and c.from_residual.result c.from_residual.ensures.1 in
    rw (e.1, e.2) (number_stops c.args.from.now c.eat.new.self c.eat.ensures.text _ c.eat.ensures.eaten c.in_err-digits.ensures.read)

pub returns-clause-read : goal.returns-clause-read
returns-clause-read c = let r = c.in_ok-digits.ensures.read in found _ _ (number_found c.args.from.now c.eat.new.self c.eat.ensures.text _ _ c.eat.ensures.eaten r.1 r.2.0)
