use Rattle.std.proofs.lemmas.Result.{err_from_is_err_and}
use Rattle.lines.proofs.Numbers.{found, listing_one, listing_more, listing_stops, listing_all}
use Rattle.lines.proofs.pieces.numerals.Goals as goal

pub loop-from-init : goal.loop-from-init
loop-from-init c = let r = c.in_ok-numeral.ensures.read in listing_one _ _ r.1 r.2.0

pub loop-from-preserved : goal.loop-from-preserved
loop-from-preserved c = let r = c.in_ok-numeral-2.ensures.read in listing_more c.loop-from.from c.eat.new.self c.eat.ensures.text _ _ c.loop-from.invariant c.loop-from-test.ensures.eaten r.1 r.2.0

pub returns-in_err-numeral-2-clause-read : goal.returns-in_err-numeral-2-clause-read
returns-in_err-numeral-2-clause-read c =
    let e = err_from_is_err_and c.from_residual-in_err-numeral-2.result c.from_residual-in_err-numeral-2.ensures.1 in
    rw (e.1, e.2) (listing_stops c.loop-from.from c.eat.new.self c.eat.ensures.text _ c.loop-from.invariant c.loop-from-test.ensures.eaten c.in_err-numeral-2.ensures.read)

pub returns-clause-read : goal.returns-clause-read
returns-clause-read c = found _ _ (listing_all c.loop-from.from c.eat.new.self c.eat.ensures.text _ c.loop-from.invariant c.loop-from-test.ensures.eaten)
