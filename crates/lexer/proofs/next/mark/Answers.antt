use Rattle.std.proofs.Common.{◌≡◌, None, slice_get, sym, ap, ◌∙◌, arith}
use Rattle.lexer.specs.Reserved.{or_else}
use Rattle.lexer.specs.Tokens.{bad, seen}
use Rattle.lexer.proofs.Marks.{two, alone, apart, placed}
use Rattle.lexer.proofs.next.mark.Goals as goal
use Rattle.lexer.proofs.next.mark.Goals.{in_default-via-in-None-1, in_default-via-in-Some+else-eat}

pub returns-then-eat-clause-token : goal.returns-then-eat-clause-token
returns-then-eat-clause-token c = λ s e f.
    let bs = c.args.from.now.text.now in
    let h = c.if-eat.ensures.eaten in
    placed _ s (omega (arith, h.1, e)) (two bs s c.args.first f c.in-Some.symbol c.in-Some.ensures (ap (slice_get bs) (sym e) ∙ h.0))

pub returns-in_default-clause-token : goal.returns-in_default-clause-token
returns-in_default-clause-token c = λ s e f.
    let bs = c.args.from.now.text.now in
    ap (λ t. seen t s c.in_default.from.at) c.mark_token.ensures ∙ elim c.in_default.branch [
      | in_default-via-in-None-1 w ↦
          let n : c.pair.result ≡ None = cc in
          placed _ s (ap (λ r. r.at) w.from-is ∙ e) (alone bs s c.args.first f (ap (λ o. or_else o bad) (sym n) ∙ c.pair.ensures))
      | in_default-via-in-Some+else-eat w ↦
          let h = w.if-eat.ensures.eaten in
          placed _ s (ap (λ r. r.at) w.from-is ∙ h.1 ∙ e) (apart bs s c.args.first f (λ g. h.0 (ap (slice_get bs) e ∙ g)))
    ]
