use Rattle.std.proofs.Common.{slice_index, sym, ap, ◌∙◌, arith}
use Rattle.lexer.specs.Lexing.{variable_at, rows_at, mark_at}
use Rattle.lexer.proofs.Begins.{byte_here, word_begins, numeral_begins, variable_begins, rows_begins, mark_begins}
use Rattle.lexer.proofs.Marks.{past}
use Rattle.lexer.proofs.next.token_here.Goals as goal

pub returns-then-is_ascii_alphabetic-clause-token : goal.returns-then-is_ascii_alphabetic-clause-token
returns-then-is_ascii_alphabetic-clause-token c =
    let f = c.args.from.now in
    c.word.ensures.token ∙ word_begins f.text.now f.at c.in-Some.first (sym c.byte.ensures ∙ c.in-Some.is) (sym c.is_ascii_alphabetic.ensures.value ∙ c.if-is_ascii_alphabetic.true)

pub returns-then-is_ascii_digit-clause-token : goal.returns-then-is_ascii_digit-clause-token
returns-then-is_ascii_digit-clause-token c =
    let f = c.args.from.now in
    c.numeral.ensures.token ∙ numeral_begins f.text.now f.at c.in-Some.first (sym c.byte.ensures ∙ c.in-Some.is) (sym c.is_ascii_alphabetic.ensures.value ∙ c.if-is_ascii_alphabetic.false) (sym c.is_ascii_digit.ensures.value ∙ c.if-is_ascii_digit.true)

pub returns-in-36-clause-token : goal.returns-in-36-clause-token
returns-in-36-clause-token c =
    let f = c.args.from.now in
    let here = sym c.byte.ensures ∙ c.in-Some.is in
    c.variable.ensures.token f.at (past c.eat.result _ _ _ _ c.eat.ensures.eaten here)
    ∙ ap (λ b. variable_at b f.at) c.eat.ensures.text
    ∙ variable_begins f.text.now f.at c.in-Some.first here c.in-36.is

pub returns-in-34-clause-token : goal.returns-in-34-clause-token
returns-in-34-clause-token c =
    let f = c.args.from.now in
    let here = sym c.byte.ensures ∙ c.in-Some.is in
    c.rows.ensures.token f.at (past c.eat.result _ _ _ _ c.eat.ensures.eaten here)
    (ap (λ b. slice_index b f.at) c.eat.ensures.text ∙ byte_here f.text.now f.at c.in-Some.first here ∙ c.in-34.is)
    ∙ ap (λ b. rows_at b f.at) c.eat.ensures.text
    ∙ rows_begins f.text.now f.at c.in-Some.first here c.in-34.is

pub returns-in_default-first-clause-token : goal.returns-in_default-first-clause-token
returns-in_default-first-clause-token c =
    let f = c.args.from.now in
    let here = sym c.byte.ensures ∙ c.in-Some.is in
    c.mark.ensures.token f.at (past c.eat.result _ _ _ _ c.eat.ensures.eaten here)
    (ap (λ b. slice_index b f.at) c.eat.ensures.text ∙ byte_here f.text.now f.at c.in-Some.first here)
    ∙ ap (λ b. mark_at b f.at) c.eat.ensures.text
    ∙ mark_begins f.text.now f.at c.in-Some.first here (sym c.is_ascii_alphabetic.ensures.value ∙ c.if-is_ascii_alphabetic.false) (sym c.is_ascii_digit.ensures.value ∙ c.if-is_ascii_digit.false) (λ e. absurd (omega (arith, e))) (λ e. absurd (omega (arith, e)))
