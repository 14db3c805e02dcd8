use Rattle.std.proofs.Common.{◌∙◌, arith, rules}
use Rattle.std.proofs.lemmas.Grind.{common_steps}
use Rattle.lexer.specs.Bytes.{blank}
use Rattle.lexer.proofs.Forward.{peeked}
use Rattle.lexer.proofs.next.peek.Goals as goal

pub returns : goal.returns
returns c =
    let e = c.run.ensures.by_test blank (search rules) in
    peeked c.args.from.now.text.now c.args.from.now.at _ c.args.from.now.within (c.token_here-token.ensures.text ∙ c.run.ensures.text) (grind (arith, common_steps, e))
