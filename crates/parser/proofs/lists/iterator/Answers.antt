use Rattle.std.proofs.Common.{◌≡◌, w64, to_z, of_z, rules, ◌∷◌, sym, refl, ◌∙◌, arith}
use Rattle.std.proofs.lemmas.Int.{to_z-of_z}
use Rattle.std.proofs.lemmas.Result.{err_from_is_err_and}
use Rattle.lexer.specs.declared.symbol.Symbol.TheVariants.{Open}
use Rattle.parser.specs.Actions.{placing, spanning}
use Rattle.parser.specs.Machine.{must, bound, lower, iterates, iterator_axis}
use Rattle.parser.proofs.Takes.{took, took_it, missed}
use Rattle.parser.proofs.lists.iterator.Goals as goal

pub returns-in_err-word-clause-read : goal.returns-in_err-word-clause-read
returns-in_err-word-clause-read c =
    let x = err_from_is_err_and c.from_residual.result c.from_residual.ensures.1 in
    rw (x.1, x.2) (λ k h js s st. missed c.in_err-word.ensures.read _ (λ w q. iterator_axis k h js w q ∷ s) (λ _ _ _. refl) (λ _ _. refl) st)

pub returns-in_err-axis-clause-read : goal.returns-in_err-axis-clause-read
returns-in_err-axis-clause-read c =
    let x = err_from_is_err_and c.from_residual-in_err-axis.result c.from_residual-in_err-axis.ensures.1 in
    rw (x.1, x.2) (λ k h js s st. took c.in_ok-word.ensures.read _ (λ w q. iterator_axis k h js w q ∷ s) (λ _ _ _. refl) st ∙ missed c.in_err-axis.ensures.read _ (λ a _. must Open ∷ bound (lower (iterates k h js c.in_ok-word.ensures.read.value c.in_ok-word.ensures.read.place a)) ∷ s) (λ _ _ _. refl) (λ _ _. refl) st)

pub returns-in_err-expect-clause-read : goal.returns-in_err-expect-clause-read
returns-in_err-expect-clause-read c =
    let x = err_from_is_err_and c.from_residual-in_err-expect.result c.from_residual-in_err-expect.ensures.1 in
    rw (x.1, x.2) (λ k h js s st. took c.in_ok-word.ensures.read _ (λ w q. iterator_axis k h js w q ∷ s) (λ _ _ _. refl) st ∙ took_it c.in_ok-axis.ensures.read _ (λ a _. must Open ∷ bound (lower (iterates k h js c.in_ok-word.ensures.read.value c.in_ok-word.ensures.read.place a)) ∷ s) (λ _ _ _. refl) st ∙ c.in_err-expect.ensures.read _ st)

pub returns-in_err-lo-clause-read : goal.returns-in_err-lo-clause-read
returns-in_err-lo-clause-read c =
    let x = err_from_is_err_and c.from_residual-in_err-lo.result c.from_residual-in_err-lo.ensures.1 in
    rw (x.1, x.2) (λ k h js s st. took c.in_ok-word.ensures.read _ (λ w q. iterator_axis k h js w q ∷ s) (λ _ _ _. refl) st ∙ took_it c.in_ok-axis.ensures.read _ (λ a _. must Open ∷ bound (lower (iterates k h js c.in_ok-word.ensures.read.value c.in_ok-word.ensures.read.place a)) ∷ s) (λ _ _ _. refl) st ∙ c.in_ok-expect.ensures.read.0.turns _ st ∙ c.in_err-lo.ensures.read _ _ st)

pub returns-in_err-expect-2-clause-read : goal.returns-in_err-expect-2-clause-read
returns-in_err-expect-2-clause-read c =
    let x = err_from_is_err_and c.from_residual-in_err-expect-2.result c.from_residual-in_err-expect-2.ensures.1 in
    rw (x.1, x.2) (λ k h js s st. took c.in_ok-word.ensures.read _ (λ w q. iterator_axis k h js w q ∷ s) (λ _ _ _. refl) st ∙ took_it c.in_ok-axis.ensures.read _ (λ a _. must Open ∷ bound (lower (iterates k h js c.in_ok-word.ensures.read.value c.in_ok-word.ensures.read.place a)) ∷ s) (λ _ _ _. refl) st ∙ c.in_ok-expect.ensures.read.0.turns _ st ∙ c.in_ok-lo.ensures.read.turns _ _ st ∙ c.in_err-expect-2.ensures.read _ st)

pub returns-in_err-hi-clause-read : goal.returns-in_err-hi-clause-read
returns-in_err-hi-clause-read c =
    let x = err_from_is_err_and c.from_residual-in_err-hi.result c.from_residual-in_err-hi.ensures.1 in
    rw (x.1, x.2) (λ k h js s st. took c.in_ok-word.ensures.read _ (λ w q. iterator_axis k h js w q ∷ s) (λ _ _ _. refl) st ∙ took_it c.in_ok-axis.ensures.read _ (λ a _. must Open ∷ bound (lower (iterates k h js c.in_ok-word.ensures.read.value c.in_ok-word.ensures.read.place a)) ∷ s) (λ _ _ _. refl) st ∙ c.in_ok-expect.ensures.read.0.turns _ st ∙ c.in_ok-lo.ensures.read.turns _ _ st ∙ c.in_ok-expect-2.ensures.read.0.turns _ st ∙ c.in_err-hi.ensures.read _ _ _ st)

pub returns-clause-read : goal.returns-clause-read
returns-clause-read c =
    let w = c.in_ok-word.ensures.read in
    let a = c.in_ok-axis.ensures.read in
    let lo : to_z w64 (of_z w64 c.in_ok-lo.lo) ≡ c.in_ok-lo.lo = to_z-of_z w64 _ (search rules) in
    let hi : to_z w64 (of_z w64 c.in_ok-hi.hi) ≡ c.in_ok-hi.hi = to_z-of_z w64 _ (search rules) in
    record {
      what = placing w.value w.place c.in_ok-axis.axis (spanning c.in_ok-lo.lo c.in_ok-hi.hi);
      same = λ i. record { word = w.same i; axis = c.in_ok-axis.axis; range = spanning (sym lo i) (sym hi i) };
      forward = omega (arith, w.forward, a.forward, c.in_ok-expect.ensures.read.1, c.in_ok-lo.ensures.read.forward, c.in_ok-expect-2.ensures.read.1, c.in_ok-hi.ensures.read.forward);
      turns = λ k h js s st. took c.in_ok-word.ensures.read _ (λ w q. iterator_axis k h js w q ∷ s) (λ _ _ _. refl) st ∙ took_it c.in_ok-axis.ensures.read _ (λ a _. must Open ∷ bound (lower (iterates k h js c.in_ok-word.ensures.read.value c.in_ok-word.ensures.read.place a)) ∷ s) (λ _ _ _. refl) st ∙ c.in_ok-expect.ensures.read.0.turns _ st ∙ c.in_ok-lo.ensures.read.turns _ _ st ∙ c.in_ok-expect-2.ensures.read.0.turns _ st ∙ c.in_ok-hi.ensures.read.turns _ _ _ st;
    }
