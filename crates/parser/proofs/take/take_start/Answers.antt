use Rattle.std.proofs.Common.{◌≡◌, true, false, sym, refl, ◌∙◌}
use Rattle.lexer.specs.declared.symbol.Symbol.TheVariants.{Condense, Coverage}
use Rattle.lexer.specs.Tokens.{tok}
use Rattle.parser.specs.Roles.{is}
use Rattle.parser.proofs.See.{equals}
use Rattle.parser.proofs.take.take_start.Goals as goal

pub returns-then-eq-clause-read : goal.returns-then-eq-clause-read
returns-then-eq-clause-read c =
    let e : is Condense (tok c.peek-t.result.token) ≡ true = sym (equals c.peek-t.result.token Condense) ∙ sym c.eq.ensures ∙ c.if-eq.true in
    (record { next = c.peek-t.result; peeked = c.peek-t.ensures; told = e; moved = refl }, refl)

pub returns-then-eq-2-clause-read : goal.returns-then-eq-2-clause-read
returns-then-eq-2-clause-read c =
    let e : is Coverage (tok c.peek-t.result.token) ≡ true = sym (equals c.peek-t.result.token Coverage) ∙ sym c.eq-else-eq.ensures ∙ c.if-eq-2.true in
    (record { next = c.peek-t.result; peeked = c.peek-t.ensures; told = e; moved = refl }, refl)

pub returns-else-eq-2-clause-read : goal.returns-else-eq-2-clause-read
returns-else-eq-2-clause-read c =
    let n : is Condense (tok c.peek-t.result.token) ≡ false = sym (equals c.peek-t.result.token Condense) ∙ sym c.eq.ensures ∙ c.if-eq.false in
    let e : is Coverage (tok c.peek-t.result.token) ≡ false = sym (equals c.peek-t.result.token Coverage) ∙ sym c.eq-else-eq.ensures ∙ c.if-eq-2.false in
    (record { next = c.peek-t.result; peeked = c.peek-t.ensures; told = e; moved = refl }, n)
