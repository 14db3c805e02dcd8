use Rattle.std.proofs.Common.{◌≡◌, true, false, sym, refl, ◌∙◌}
use Rattle.lexer.specs.Tokens.{tok}
use Rattle.parser.specs.Roles.{is}
use Rattle.parser.proofs.See.{equals}
use Rattle.parser.proofs.Takes.{passes, stops}
use Rattle.parser.proofs.take.expect.Goals as goal

pub returns-then-eq-clause-next : goal.returns-then-eq-clause-next
returns-then-eq-clause-next c =
    let e : is c.args.want (tok c.peek-t.result.token) ≡ true = sym (equals c.peek-t.result.token c.args.want) ∙ sym c.eq.ensures ∙ c.if-eq.true in
    (record { next = c.peek-t.result; peeked = c.peek-t.ensures; told = e; moved = refl }, refl)

pub returns-then-eq-clause-read : goal.returns-then-eq-clause-read
returns-then-eq-clause-read c =
    let e : is c.args.want (tok c.peek-t.result.token) ≡ true = sym (equals c.peek-t.result.token c.args.want) ∙ sym c.eq.ensures ∙ c.if-eq.true in
    passes (record { next = c.peek-t.result; peeked = c.peek-t.ensures; told = e; moved = refl })

pub returns-else-eq-clause-next : goal.returns-else-eq-clause-next
returns-else-eq-clause-next c =
    let e : is c.args.want (tok c.peek-t.result.token) ≡ false = sym (equals c.peek-t.result.token c.args.want) ∙ sym c.eq.ensures ∙ c.if-eq.false in
    (record { next = c.peek-t.result; peeked = c.peek-t.ensures; told = e; moved = refl }, refl)

pub returns-else-eq-clause-read : goal.returns-else-eq-clause-read
returns-else-eq-clause-read c =
    let e : is c.args.want (tok c.peek-t.result.token) ≡ false = sym (equals c.peek-t.result.token c.args.want) ∙ sym c.eq.ensures ∙ c.if-eq.false in
    stops c.args.from.now c.args.from.now (record { next = c.peek-t.result; peeked = c.peek-t.ensures; told = e; moved = refl })
