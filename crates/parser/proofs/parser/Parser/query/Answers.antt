use Rattle.std.proofs.Common.{◌≡◌, ℕ, List, [], ◌∷◌, refl, ◌∙◌}
use Rattle.std.proofs.lemmas.Result.{err_from_is_err_and}
use Rattle.lexer.specs.declared.symbol.Symbol.TheVariants.{Return}
use Rattle.syntax.specs.Tree.{Binding}
use Rattle.parser.specs.Actions.{St, build}
use Rattle.parser.specs.Machine.{Item, must, bindings, returning}
use Rattle.parser.proofs.See.{from_byte, level}
use Rattle.parser.proofs.parser.Parser.query.Goals as goal

-- after the bindings, `return` is due
returns_due : (bs : List ℕ) (at : ℕ) (js : List Binding) (s : List Item) (st : St) → from_byte bs at (bindings 0 js ∷ s) st ≡ from_byte bs at (must Return ∷ returning js s) st
returns_due bs at js s st = level build _ _ st _ st _ (λ _. refl) (λ _ _. refl)

pub returns-in_err-bindings-clause-read : goal.returns-in_err-bindings-clause-read
returns-in_err-bindings-clause-read c =
    let x = err_from_is_err_and c.from_residual-in_err-bindings.result c.from_residual-in_err-bindings.ensures.1 in
    rw (x.1, x.2) (c.in_ok-expect.ensures.read.0.turns _ _ ∙ c.in_err-bindings.ensures.read tt _ _)

pub returns-in_err-expect-2-clause-read : goal.returns-in_err-expect-2-clause-read
returns-in_err-expect-2-clause-read c =
    let x = err_from_is_err_and c.from_residual-in_err-expect-2.result c.from_residual-in_err-expect-2.ensures.1 in
    rw (x.1, x.2) (c.in_ok-expect.ensures.read.0.turns _ _ ∙ c.in_ok-bindings.ensures.read.turns tt [] _ ∙ returns_due _ _ c.in_ok-bindings.ensures.read.what [] _ ∙ c.in_err-expect-2.ensures.read _ _)

pub returns-in_err-expect-3-clause-read : goal.returns-in_err-expect-3-clause-read
returns-in_err-expect-3-clause-read c =
    let x = err_from_is_err_and c.from_residual-in_err-expect-3.result c.from_residual-in_err-expect-3.ensures.1 in
    rw (x.1, x.2) (c.in_ok-expect.ensures.read.0.turns _ _ ∙ c.in_ok-bindings.ensures.read.turns tt [] _ ∙ returns_due _ _ c.in_ok-bindings.ensures.read.what [] _ ∙ c.in_ok-expect-2.ensures.read.0.turns _ _ ∙ c.in_err-expect-3.ensures.read _ _)

pub returns-in_err-expect-4-clause-read : goal.returns-in_err-expect-4-clause-read
returns-in_err-expect-4-clause-read c =
    let x = err_from_is_err_and c.from_residual-in_err-expect-4.result c.from_residual-in_err-expect-4.ensures.1 in
    rw (x.1, x.2) (c.in_ok-expect.ensures.read.0.turns _ _ ∙ c.in_ok-bindings.ensures.read.turns tt [] _ ∙ returns_due _ _ c.in_ok-bindings.ensures.read.what [] _ ∙ c.in_ok-expect-2.ensures.read.0.turns _ _ ∙ c.in_ok-expect-3.ensures.read.0.turns _ _ ∙ c.in_err-expect-4.ensures.read _ _)

pub returns-in_err-d-clause-read : goal.returns-in_err-d-clause-read
returns-in_err-d-clause-read c =
    let x = err_from_is_err_and c.from_residual-in_err-d.result c.from_residual-in_err-d.ensures.1 in
    rw (x.1, x.2) (c.in_ok-expect.ensures.read.0.turns _ _ ∙ c.in_ok-bindings.ensures.read.turns tt [] _ ∙ returns_due _ _ c.in_ok-bindings.ensures.read.what [] _ ∙ c.in_ok-expect-2.ensures.read.0.turns _ _ ∙ c.in_ok-expect-3.ensures.read.0.turns _ _ ∙ c.in_ok-expect-4.ensures.read.0.turns _ _ ∙ c.in_err-d.ensures.read _ [])

pub returns-in_err-expect-5-clause-read : goal.returns-in_err-expect-5-clause-read
returns-in_err-expect-5-clause-read c =
    let x = err_from_is_err_and c.from_residual-in_err-expect-5.result c.from_residual-in_err-expect-5.ensures.1 in
    rw (x.1, x.2) (c.in_ok-expect.ensures.read.0.turns _ _ ∙ c.in_ok-bindings.ensures.read.turns tt [] _ ∙ returns_due _ _ c.in_ok-bindings.ensures.read.what [] _ ∙ c.in_ok-expect-2.ensures.read.0.turns _ _ ∙ c.in_ok-expect-3.ensures.read.0.turns _ _ ∙ c.in_ok-expect-4.ensures.read.0.turns _ _ ∙ c.in_ok-d.ensures.read.turns _ [] ∙ c.in_err-expect-5.ensures.read _ _)

pub returns-in_err-expect-6-clause-read : goal.returns-in_err-expect-6-clause-read
returns-in_err-expect-6-clause-read c =
    let x = err_from_is_err_and c.from_residual-in_err-expect-6.result c.from_residual-in_err-expect-6.ensures.1 in
    rw (x.1, x.2) (c.in_ok-expect.ensures.read.0.turns _ _ ∙ c.in_ok-bindings.ensures.read.turns tt [] _ ∙ returns_due _ _ c.in_ok-bindings.ensures.read.what [] _ ∙ c.in_ok-expect-2.ensures.read.0.turns _ _ ∙ c.in_ok-expect-3.ensures.read.0.turns _ _ ∙ c.in_ok-expect-4.ensures.read.0.turns _ _ ∙ c.in_ok-d.ensures.read.turns _ [] ∙ c.in_ok-expect-5.ensures.read.0.turns _ _ ∙ c.in_err-expect-6.ensures.read _ _)

pub returns-in_err-expect-7-clause-read : goal.returns-in_err-expect-7-clause-read
returns-in_err-expect-7-clause-read c =
    let x = err_from_is_err_and c.from_residual-in_err-expect-7.result c.from_residual-in_err-expect-7.ensures.1 in
    rw (x.1, x.2) (c.in_ok-expect.ensures.read.0.turns _ _ ∙ c.in_ok-bindings.ensures.read.turns tt [] _ ∙ returns_due _ _ c.in_ok-bindings.ensures.read.what [] _ ∙ c.in_ok-expect-2.ensures.read.0.turns _ _ ∙ c.in_ok-expect-3.ensures.read.0.turns _ _ ∙ c.in_ok-expect-4.ensures.read.0.turns _ _ ∙ c.in_ok-d.ensures.read.turns _ [] ∙ c.in_ok-expect-5.ensures.read.0.turns _ _ ∙ c.in_ok-expect-6.ensures.read.0.turns _ _ ∙ c.in_err-expect-7.ensures.read _ _)

pub returns-in_err-take_end-clause-read : goal.returns-in_err-take_end-clause-read
returns-in_err-take_end-clause-read c =
    let x = err_from_is_err_and c.from_residual-in_err-take_end.result c.from_residual-in_err-take_end.ensures.1 in
    rw (x.1, x.2) (c.in_ok-expect.ensures.read.0.turns _ _ ∙ c.in_ok-bindings.ensures.read.turns tt [] _ ∙ returns_due _ _ c.in_ok-bindings.ensures.read.what [] _ ∙ c.in_ok-expect-2.ensures.read.0.turns _ _ ∙ c.in_ok-expect-3.ensures.read.0.turns _ _ ∙ c.in_ok-expect-4.ensures.read.0.turns _ _ ∙ c.in_ok-d.ensures.read.turns _ [] ∙ c.in_ok-expect-5.ensures.read.0.turns _ _ ∙ c.in_ok-expect-6.ensures.read.0.turns _ _ ∙ c.in_ok-expect-7.ensures.read.0.turns _ _ ∙ c.in_err-take_end.ensures.read _ _)

pub returns-clause-read : goal.returns-clause-read
returns-clause-read c = (
  c.in_ok-bindings.ensures.read.what,
  c.in_ok-d.d.place,
  c.in_ok-bindings.ensures.read.same,
  refl,
  c.in_ok-expect.ensures.read.0.turns _ _ ∙ c.in_ok-bindings.ensures.read.turns tt [] _ ∙ returns_due _ _ c.in_ok-bindings.ensures.read.what [] _ ∙ c.in_ok-expect-2.ensures.read.0.turns _ _ ∙ c.in_ok-expect-3.ensures.read.0.turns _ _ ∙ c.in_ok-expect-4.ensures.read.0.turns _ _ ∙ c.in_ok-d.ensures.read.turns _ [] ∙ c.in_ok-expect-5.ensures.read.0.turns _ _ ∙ c.in_ok-expect-6.ensures.read.0.turns _ _ ∙ c.in_ok-expect-7.ensures.read.0.turns _ _ ∙ c.in_ok-take_end.ensures.read _ _,
)
