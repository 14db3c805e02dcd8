use Rattle.std.proofs.Common.{◌≡◌, w64, to_z, of_z, sym, ◌∙◌, subst, rules, arith}
use Rattle.std.proofs.lemmas.Int.{to_z-of_z}
use Rattle.std.proofs.lemmas.Result.{err_from_is_err_and}
use Rattle.parser.specs.Reads.{RangeEnded}
use Rattle.parser.proofs.take.upper_end.Goals as goal

pub returns-in_err-hi-clause-read : goal.returns-in_err-hi-clause-read
returns-in_err-hi-clause-read c =
    let x = err_from_is_err_and c.from_residual.result c.from_residual.ensures.1 in
    rw (x.1, x.2) (λ u lo s st. c.in_err-hi.ensures.read _ s st)

pub returns-in_err-expect-clause-read : goal.returns-in_err-expect-clause-read
returns-in_err-expect-clause-read c =
    let x = err_from_is_err_and c.from_residual-in_err-expect.result c.from_residual-in_err-expect.ensures.1 in
    rw (x.1, x.2) (λ u lo s st. c.in_ok-hi.ensures.read.turns _ s st ∙ c.in_err-expect.ensures.read _ st)

pub returns-clause-read : goal.returns-clause-read
returns-clause-read c =
    let h = c.in_ok-hi.ensures.read in
    let z = c.in_ok-expect.ensures.read in
    let e : to_z w64 (of_z w64 c.in_ok-hi.hi) ≡ c.in_ok-hi.hi = to_z-of_z w64 _ (search rules) in
    subst (RangeEnded _ _) (sym e) (record { forward = omega (arith, h.forward, z.1); turns = λ u lo s st. h.turns _ s st ∙ z.0.turns _ st })
