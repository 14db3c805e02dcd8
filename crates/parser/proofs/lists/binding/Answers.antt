use Rattle.std.proofs.Common.{[], ◌∷◌, ◌++◌, refl, ◌∙◌, arith}
use Rattle.std.proofs.lemmas.Result.{err_from_is_err_and}
use Rattle.lexer.specs.declared.symbol.Symbol.TheVariants.{In, Open, Close}
use Rattle.parser.specs.Actions.{bound as bound_by}
use Rattle.parser.specs.Machine.{must, binding_name, bindings}
use Rattle.parser.proofs.Takes.{took, missed}
use Rattle.parser.proofs.lists.binding.Goals as goal

pub returns-in_err-word-clause-read : goal.returns-in_err-word-clause-read
returns-in_err-word-clause-read c =
    let x = err_from_is_err_and c.from_residual.result c.from_residual.ensures.1 in
    rw (x.1, x.2) (λ k h js s st. missed c.in_err-word.ensures.read _ (λ w q. must In ∷ must Open ∷ binding_name k js w q ∷ s) (λ _ _ _. refl) (λ _ _. refl) st)

pub returns-in_err-expect-clause-read : goal.returns-in_err-expect-clause-read
returns-in_err-expect-clause-read c =
    let x = err_from_is_err_and c.from_residual-in_err-expect.result c.from_residual-in_err-expect.ensures.1 in
    rw (x.1, x.2) (λ k h js s st. took c.in_ok-word.ensures.read _ (λ w q. must In ∷ must Open ∷ binding_name k js w q ∷ s) (λ _ _ _. refl) st ∙ c.in_err-expect.ensures.read _ st)

pub returns-in_err-expect-2-clause-read : goal.returns-in_err-expect-2-clause-read
returns-in_err-expect-2-clause-read c =
    let x = err_from_is_err_and c.from_residual-in_err-expect-2.result c.from_residual-in_err-expect-2.ensures.1 in
    rw (x.1, x.2) (λ k h js s st. took c.in_ok-word.ensures.read _ (λ w q. must In ∷ must Open ∷ binding_name k js w q ∷ s) (λ _ _ _. refl) st ∙ c.in_ok-expect.ensures.read.0.turns _ st ∙ c.in_err-expect-2.ensures.read _ st)

pub returns-in_err-coverage-clause-read : goal.returns-in_err-coverage-clause-read
returns-in_err-coverage-clause-read c =
    let x = err_from_is_err_and c.from_residual-in_err-coverage.result c.from_residual-in_err-coverage.ensures.1 in
    rw (x.1, x.2) (λ k h js s st. took c.in_ok-word.ensures.read _ (λ w q. must In ∷ must Open ∷ binding_name k js w q ∷ s) (λ _ _ _. refl) st ∙ c.in_ok-expect.ensures.read.0.turns _ st ∙ c.in_ok-expect-2.ensures.read.0.turns _ st ∙ missed c.in_err-coverage.ensures.read _ (λ v q. must Close ∷ bindings k (js ++ (bound_by c.in_ok-word.ensures.read.value c.in_ok-word.ensures.read.place v q ∷ [])) ∷ s) (λ _ _ _. refl) (λ _ _. refl) st)

pub returns-in_err-expect-3-clause-read : goal.returns-in_err-expect-3-clause-read
returns-in_err-expect-3-clause-read c =
    let x = err_from_is_err_and c.from_residual-in_err-expect-3.result c.from_residual-in_err-expect-3.ensures.1 in
    rw (x.1, x.2) (λ k h js s st. took c.in_ok-word.ensures.read _ (λ w q. must In ∷ must Open ∷ binding_name k js w q ∷ s) (λ _ _ _. refl) st ∙ c.in_ok-expect.ensures.read.0.turns _ st ∙ c.in_ok-expect-2.ensures.read.0.turns _ st ∙ took c.in_ok-coverage.ensures.read _ (λ v q. must Close ∷ bindings k (js ++ (bound_by c.in_ok-word.ensures.read.value c.in_ok-word.ensures.read.place v q ∷ [])) ∷ s) (λ _ _ _. refl) st ∙ c.in_err-expect-3.ensures.read _ st)

pub returns-clause-read : goal.returns-clause-read
returns-clause-read c =
    let w = c.in_ok-word.ensures.read in
    let v = c.in_ok-coverage.ensures.read in
    let z = c.in_ok-expect-3.ensures.read in
    record {
      what = bound_by w.value w.place v.value v.place;
      same = λ i. record { word = w.same i; coverage = v.same i };
      forward = omega (arith, w.forward, v.forward, c.in_ok-expect.ensures.read.1, c.in_ok-expect-2.ensures.read.1, z.1);
      turns = λ k h js s st. took c.in_ok-word.ensures.read _ (λ w q. must In ∷ must Open ∷ binding_name k js w q ∷ s) (λ _ _ _. refl) st ∙ c.in_ok-expect.ensures.read.0.turns _ st ∙ c.in_ok-expect-2.ensures.read.0.turns _ st ∙ took c.in_ok-coverage.ensures.read _ (λ v q. must Close ∷ bindings k (js ++ (bound_by c.in_ok-word.ensures.read.value c.in_ok-word.ensures.read.place v q ∷ [])) ∷ s) (λ _ _ _. refl) st ∙ c.in_ok-expect-3.ensures.read.0.turns _ st;
    }
