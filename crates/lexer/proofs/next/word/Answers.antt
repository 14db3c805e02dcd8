use Rattle.std.proofs.Common.{ap, ◌∙◌}
use Rattle.std.proofs.lemmas.Bool.{cond_above}
use Rattle.lexer.specs.Reserved.{word_token}
use Rattle.lexer.specs.Tokens.{seen}
use Rattle.lexer.proofs.next.word.Goals as goal

pub returns-in-Some-clause-token : goal.returns-in-Some-clause-token
returns-in-Some-clause-token c =
    let h = c.in-Some.ensures in
    let t = c.word_token.ensures ∙ ap word_token h.word.1 in
    cond_above 16 _ _ _ _ h.word.0 (λ i. seen (t i) c.args.from.now.at (h.end i))
