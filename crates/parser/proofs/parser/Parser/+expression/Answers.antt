use Rattle.std.proofs.Common.{◌≡◌, ℕ, suc, ◌-◌, ◌<◌, ◌≤◌, max, Bool, true, false, cond, eqb, List, [], ◌∷◌, ◌++◌, Some, None, Ok, Err, Option, Result, sym, refl, ap, ◌∙◌, subst, arith, w64, to_z, of_z, ⊎_elim, rules}
use Rattle.std.proofs.lemmas.Bool.{ne_eqb}
use Rattle.std.proofs.lemmas.Int.{to_z-of_z}
use Rattle.std.proofs.lemmas.Result.{err_from_is_err_and}
use Rattle.std.specs.Option.{ok_or}
use Rattle.coverage.specs.declared.axis.Axis.{Axis}
use Rattle.coverage.specs.declared.axis.Axis.TheVariants.{X, Y, T}
use Rattle.coverage.specs.Entries.{entry as entry_of, changed}
use Rattle.cursor.specs.declared.cursor.Cursor.{Cursor}
use Rattle.lexer.specs.declared.symbol.Symbol.{Symbol}
use Rattle.lexer.specs.declared.symbol.Symbol.TheVariants as the
use Rattle.lexer.specs.Tokens.{tok, symbol}
use Rattle.lexer.specs.Toks.{Peeked}
use Rattle.lexer.specs.declared.token.Lexed.{Lexed}
use Rattle.syntax.specs.Tree.{Word}
use Rattle.syntax.specs.declared.Fold.{Fold}
use Rattle.parser.specs.declared.node.Construct.TheVariants as construct
use Rattle.parser.specs.declared.node.Few.{Few}
use Rattle.parser.specs.declared.node.Iteration.{Iteration}
use Rattle.parser.specs.declared.node.Part.{Part}
use Rattle.parser.specs.declared.parser.Done.{Done}
use Rattle.parser.specs.declared.parser.Parser.{Parser}
use Rattle.parser.specs.declared.roles.Operator.{Operator}
use Rattle.parser.specs.declared.roles.Opening.{Opening}
use Rattle.parser.specs.Axes.{Seen, axis_of, none_seen, holds, marks}
use Rattle.parser.specs.Roles.{is, operator_of, opening, fold_of, word_of}
use Rattle.parser.specs.Actions.{Placing, Val, St, state, build, join, deeper, applied, spanning, prefix, condense, pick, cover}
use Rattle.parser.specs.Machine.{Item, moved, given, when, begins, levels, ladder, again, tail, operand, subsets, entry, entries, arg, must, acts, expr, sign, any_word, iterators, iterating2, condensing, covering, pops, opened, onward, refused}
use Rattle.parser.specs.Reads.{on, Taken, Eaten, Passes, Climbs, as_word}
use Rattle.parser.specs.Lists.{AllIterators}
use Rattle.parser.specs.Parsed.{due, stands, opens, Parsed, Opens, OpenedRead}
use Rattle.parser.proofs.See.{arm, arm_to, alike, turn, beyond, level, done}
use Rattle.parser.proofs.Takes.{took, took_it, missed, found, ate, left}
use Rattle.parser.proofs.Joins.{joins, restacked, redepthed, added}
use Rattle.parser.proofs.Climb.{climbs, passes_over, finish_ladder, found_between, none_between}
use Rattle.parser.proofs.parser.Parser.+expression.Goals as goal
use Rattle.parser.proofs.parser.Parser.+expression.Goals.{operand-in-Numeral, operand-in-Variable, operand-in-Word, function-in-Abs, function-in-Over}

-- ---- expressions

-- a chain
chain_comes : (a b : Cursor) → (e : Eaten the.Coverage a b false) → is the.Condense (tok e.next.token) ≡ false → (s : List Item) (st : St) → on a (expr ∷ s) st ≡ on b (operand ∷ (levels ++ s)) st
chain_comes a b e f s st =
    left a b e _ st (operand ∷ (levels ++ s)) (λ _. refl)
    (λ i. cond (f i) (moved (sign e.next.place ∷ s) st) (cond (e.told i) (moved (any_word ∷ iterating2 (covering e.next.place) s) st) (begins build (tok e.next.token) e.next.place st (levels ++ s))))

-- what was passed before an expression goes with it
begun : (x y : List Item) (us : List Val) (old mid new : Parser) (r : Result Done ℕ) → Parsed y us mid new r → old.from.at ≤ mid.from.at → mid.count ≡ old.count → ((s : List Item) (vs : List Val) → due old (x ++ s) (us ++ vs) ≡ due mid (y ++ s) (us ++ vs)) → Parsed x us old new r
begun x y us old mid new (Ok e) h f n g = record {
  forward = omega (arith, f, h.forward);
  few = omega (arith, f, n, h.few);
  turns = λ s vs. g s vs ∙ h.turns s vs;
}
begun x y us old mid new (Err p) h f n g = λ s vs. g s vs ∙ h s vs

pub expr-returns-in-Condense-clause-read : goal.expr-returns-in-Condense-clause-read
expr-returns-in-Condense-clause-read t c =
    let e = c.in-Condense.ensures.read.0 in
    begun _ _ _ _ _ _ c.condense.result c.condense.ensures.read c.in-Condense.ensures.on.forward refl
    (λ s vs. ate e (expr ∷ s) _ (sign e.next.place ∷ s) refl ∙ restacked _ _ _ (ap (λ p. sign p ∷ s) c.in-Condense.ensures.read.1))

pub expr-returns-in-Coverage-clause-read : goal.expr-returns-in-Coverage-clause-read
expr-returns-in-Coverage-clause-read t c =
    let e = c.in-Coverage.ensures.read.0 in
    begun _ _ _ _ _ _ c.form.result c.form.ensures.read c.in-Coverage.ensures.on.forward refl
    (λ s vs. ate e (expr ∷ s) _ (any_word ∷ iterating2 (covering e.next.place) s) refl ∙ restacked _ _ _ (ap (λ p. any_word ∷ iterating2 (covering p) s) c.in-Coverage.ensures.read.1))

pub expr-returns-in-Chain-clause-read : goal.expr-returns-in-Chain-clause-read
expr-returns-in-Chain-clause-read t c =
    let h = c.in-Chain.ensures.read in
    begun _ _ _ _ _ _ c.chain.result c.chain.ensures.read c.in-Chain.ensures.on.forward refl
    (λ s vs. chain_comes _ _ h.0 h.1 s _)

-- ---- condense forms

-- the sign, `over` and the iterators
gathers : (p : ℕ) {a b d e : Cursor} {f : Fold} {is : Few Iteration 2} → Taken Fold Fold fold_of (λ f p. f) a b f → Passes (must the.Over ∷ []) [] b d → (i : AllIterators d e is) → (s : List Item) (st : St) → on a (sign p ∷ s) st ≡ on e (iterators 0 (condensing p f) i.what ∷ s) st
gathers p {f = f} h o i s st = took_it h _ (λ f _. iterating2 (condensing p f) s) (λ _ _ _. refl) st ∙ o.turns _ st ∙ i.turns (condensing p f) s st

-- without `where`, `using` is due
no_where : {old : Cursor} (new : Cursor) → Eaten the.Where old new false → (p : ℕ) (f : Fold) (js : List Placing) (s : List Item) (st : St) → on old (iterators 0 (condensing p f) js ∷ s) st ≡ on new (must the.Using ∷ expr ∷ acts (condense p f js) ∷ s) st
no_where {old} new e q f js s st = left old new e _ st _ (λ _. refl) (λ i. cond (e.told i) (moved (expr ∷ must the.Using ∷ expr ∷ acts (pick q f js) ∷ s) st) (when (is the.Using (tok e.next.token)) (expr ∷ acts (condense q f js) ∷ s) st))

pub condense-returns-in_err-fold-clause-read : goal.condense-returns-in_err-fold-clause-read
condense-returns-in_err-fold-clause-read t c =
    let x = err_from_is_err_and c.from_residual.result c.from_residual.ensures.1 in
    rw (x.1, x.2) (λ s vs. missed c.in_err-fold.ensures.read _ (λ f _. iterating2 (condensing c.args.place f) s) (λ _ _ _. refl) (λ _ _. refl) _)

pub condense-returns-in_err-expect-clause-read : goal.condense-returns-in_err-expect-clause-read
condense-returns-in_err-expect-clause-read t c =
    let x = err_from_is_err_and c.from_residual-in_err-expect.result c.from_residual-in_err-expect.ensures.1 in
    rw (x.1, x.2) (λ s vs. took_it c.in_ok-fold.ensures.read _ (λ f _. iterating2 (condensing c.args.place f) s) (λ _ _ _. refl) _ ∙ c.in_err-expect.ensures.read _ _)

pub condense-returns-in_err-iterators-clause-read : goal.condense-returns-in_err-iterators-clause-read
condense-returns-in_err-iterators-clause-read t c =
    let x = err_from_is_err_and c.from_residual-in_err-iterators.result c.from_residual-in_err-iterators.ensures.1 in
    rw (x.1, x.2) (λ s vs. took_it c.in_ok-fold.ensures.read _ (λ f _. iterating2 (condensing c.args.place f) s) (λ _ _ _. refl) _ ∙ c.in_ok-expect.ensures.read.0.turns _ _ ∙ c.in_err-iterators.ensures.read (condensing c.args.place c.in_ok-fold.fold) s _)

pub condense-returns-in_err-pick-clause-read : goal.condense-returns-in_err-pick-clause-read
condense-returns-in_err-pick-clause-read t c =
    let x = err_from_is_err_and c.from_residual-in_err-pick.result c.from_residual-in_err-pick.ensures.1 in
    rw (x.1, x.2) (λ s vs. gathers c.args.place c.in_ok-fold.ensures.read c.in_ok-expect.ensures.read.0 c.in_ok-iterators.ensures.read s _ ∙ ate c.if-eat.ensures.read _ _ _ refl ∙ c.in_err-pick.ensures.read _ _)

pub condense-returns-in_err-expect-2-clause-read : goal.condense-returns-in_err-expect-2-clause-read
condense-returns-in_err-expect-2-clause-read t c =
    let x = err_from_is_err_and c.from_residual-in_err-expect-2.result c.from_residual-in_err-expect-2.ensures.1 in
    rw (x.1, x.2) (λ s vs. gathers c.args.place c.in_ok-fold.ensures.read c.in_ok-expect.ensures.read.0 c.in_ok-iterators.ensures.read s _ ∙ ate c.if-eat.ensures.read _ _ _ refl ∙ c.in_ok-pick.ensures.read.turns _ _ ∙ c.in_err-expect-2.ensures.read _ _)

pub condense-returns-in_err-body-clause-read : goal.condense-returns-in_err-body-clause-read
condense-returns-in_err-body-clause-read t c =
    let x = err_from_is_err_and c.from_residual-in_err-body.result c.from_residual-in_err-body.ensures.1 in
    rw (x.1, x.2) (λ s vs. gathers c.args.place c.in_ok-fold.ensures.read c.in_ok-expect.ensures.read.0 c.in_ok-iterators.ensures.read s _ ∙ ate c.if-eat.ensures.read _ _ _ refl ∙ c.in_ok-pick.ensures.read.turns _ _ ∙ c.in_ok-expect-2.ensures.read.0.turns _ _ ∙ c.in_err-body.ensures.read _ _)

pub condense-returns-in_err-expect-3-clause-read : goal.condense-returns-in_err-expect-3-clause-read
condense-returns-in_err-expect-3-clause-read t c =
    let x = err_from_is_err_and c.from_residual-in_err-expect-3.result c.from_residual-in_err-expect-3.ensures.1 in
    rw (x.1, x.2) (λ s vs. gathers c.args.place c.in_ok-fold.ensures.read c.in_ok-expect.ensures.read.0 c.in_ok-iterators.ensures.read s _ ∙ no_where c.eat.new.from c.if-eat.ensures.read c.args.place c.in_ok-fold.fold c.in_ok-iterators.ensures.read.what s _ ∙ c.in_err-expect-3.ensures.read _ _)

pub condense-returns-in_err-body-2-clause-read : goal.condense-returns-in_err-body-2-clause-read
condense-returns-in_err-body-2-clause-read t c =
    let x = err_from_is_err_and c.from_residual-in_err-body-2.result c.from_residual-in_err-body-2.ensures.1 in
    rw (x.1, x.2) (λ s vs. gathers c.args.place c.in_ok-fold.ensures.read c.in_ok-expect.ensures.read.0 c.in_ok-iterators.ensures.read s _ ∙ no_where c.eat.new.from c.if-eat.ensures.read c.args.place c.in_ok-fold.fold c.in_ok-iterators.ensures.read.what s _ ∙ c.in_ok-expect-3.ensures.read.0.turns _ _ ∙ c.in_err-body-2.ensures.read _ _)

pub condense-returns-in_ok-body-clause-read : goal.condense-returns-in_ok-body-clause-read
condense-returns-in_ok-body-clause-read t c =
    let f = c.in_ok-fold.ensures.read in
    let o = c.in_ok-expect.ensures.read in
    let i = c.in_ok-iterators.ensures.read in
    let p = c.if-eat.ensures.on in
    let w = c.in_ok-pick.ensures.read in
    let u = c.in_ok-expect-2.ensures.read in
    let b = c.in_ok-body.ensures.read in
    let a = c.add.ensures in
    record {
      forward = omega (arith, f.forward, o.1, i.forward, p.forward, w.forward, u.1, b.forward, ap (λ (c : Cursor). c.at) a.from);
      few = omega (arith, f.forward, o.1, i.forward, p.forward, w.few, u.1, b.few, a.count, ap (λ (c : Cursor). c.at) a.from);
      turns = λ s vs. gathers c.args.place c.in_ok-fold.ensures.read c.in_ok-expect.ensures.read.0 c.in_ok-iterators.ensures.read s _ ∙ ate c.if-eat.ensures.read _ _ _ refl ∙ w.turns _ _ ∙ u.0.turns _ _ ∙ b.turns _ _ ∙ done build _ _ _ _ _ ∙ added a (ap (λ z. construct.CondenseWhere c.in_ok-fold.fold z c.in_ok-pick.pick.root c.in_ok-body.body.root) i.same) (sym (c.deeper.ensures ∙ ap deeper c.max.ensures)) s vs;
    }

pub condense-returns-in_ok-body-2-clause-read : goal.condense-returns-in_ok-body-2-clause-read
condense-returns-in_ok-body-2-clause-read t c =
    let f = c.in_ok-fold.ensures.read in
    let o = c.in_ok-expect.ensures.read in
    let i = c.in_ok-iterators.ensures.read in
    let p = c.if-eat.ensures.on in
    let u = c.in_ok-expect-3.ensures.read in
    let b = c.in_ok-body-2.ensures.read in
    let a = c.add-else-eat.ensures in
    record {
      forward = omega (arith, f.forward, o.1, i.forward, p.forward, u.1, b.forward, ap (λ (c : Cursor). c.at) a.from);
      few = omega (arith, f.forward, o.1, i.forward, p.forward, u.1, b.few, a.count, ap (λ (c : Cursor). c.at) a.from);
      turns = λ s vs. gathers c.args.place c.in_ok-fold.ensures.read c.in_ok-expect.ensures.read.0 c.in_ok-iterators.ensures.read s _ ∙ no_where c.eat.new.from c.if-eat.ensures.read c.args.place c.in_ok-fold.fold c.in_ok-iterators.ensures.read.what s _ ∙ u.0.turns _ _ ∙ b.turns _ _ ∙ done build _ _ _ _ _ ∙ added a (ap (λ z. construct.Condense c.in_ok-fold.fold z c.in_ok-body-2.body.root) i.same) (sym c.deeper-else-eat.ensures) s vs;
    }

-- ---- coverage forms

-- the word, `over` and the iterators, after which `values` is due
covers : (p : ℕ) {a b d e : Cursor} {w : Part} {is : Few Iteration 2} → Taken Word Part word_of as_word a b w → Passes (must the.Over ∷ []) [] b d → (i : AllIterators d e is) → (s : List Item) (st : St) → on a (any_word ∷ iterating2 (covering p) s) st ≡ on e (must the.Values ∷ expr ∷ acts (cover p i.what) ∷ s) st
covers p h o i s st = took h _ (λ _ _. iterating2 (covering p) s) (λ _ _ _. refl) st ∙ o.turns _ st ∙ i.turns (covering p) s st ∙ level build _ _ _ _ _ _ (λ _. refl) (λ _ _. refl)

pub form-returns-in_err-take_word-clause-read : goal.form-returns-in_err-take_word-clause-read
form-returns-in_err-take_word-clause-read t c =
    let x = err_from_is_err_and c.from_residual.result c.from_residual.ensures.1 in
    rw (x.1, x.2) (λ s vs. missed c.in_err-take_word.ensures.read _ (λ _ _. iterating2 (covering c.args.place) s) (λ _ _ _. refl) (λ _ _. refl) _)

pub form-returns-in_err-expect-clause-read : goal.form-returns-in_err-expect-clause-read
form-returns-in_err-expect-clause-read t c =
    let x = err_from_is_err_and c.from_residual-in_err-expect.result c.from_residual-in_err-expect.ensures.1 in
    rw (x.1, x.2) (λ s vs. took c.in_ok-take_word.ensures.read _ (λ _ _. iterating2 (covering c.args.place) s) (λ _ _ _. refl) _ ∙ c.in_err-expect.ensures.read _ _)

pub form-returns-in_err-iterators-clause-read : goal.form-returns-in_err-iterators-clause-read
form-returns-in_err-iterators-clause-read t c =
    let x = err_from_is_err_and c.from_residual-in_err-iterators.result c.from_residual-in_err-iterators.ensures.1 in
    rw (x.1, x.2) (λ s vs. took c.in_ok-take_word.ensures.read _ (λ _ _. iterating2 (covering c.args.place) s) (λ _ _ _. refl) _ ∙ c.in_ok-expect.ensures.read.0.turns _ _ ∙ c.in_err-iterators.ensures.read (covering c.args.place) s _)

pub form-returns-in_err-expect-2-clause-read : goal.form-returns-in_err-expect-2-clause-read
form-returns-in_err-expect-2-clause-read t c =
    let x = err_from_is_err_and c.from_residual-in_err-expect-2.result c.from_residual-in_err-expect-2.ensures.1 in
    rw (x.1, x.2) (λ s vs. covers c.args.place c.in_ok-take_word.ensures.read c.in_ok-expect.ensures.read.0 c.in_ok-iterators.ensures.read s _ ∙ c.in_err-expect-2.ensures.read _ _)

pub form-returns-in_err-body-clause-read : goal.form-returns-in_err-body-clause-read
form-returns-in_err-body-clause-read t c =
    let x = err_from_is_err_and c.from_residual-in_err-body.result c.from_residual-in_err-body.ensures.1 in
    rw (x.1, x.2) (λ s vs. covers c.args.place c.in_ok-take_word.ensures.read c.in_ok-expect.ensures.read.0 c.in_ok-iterators.ensures.read s _ ∙ c.in_ok-expect-2.ensures.read.0.turns _ _ ∙ c.in_err-body.ensures.read _ _)

pub form-returns-clause-read : goal.form-returns-clause-read
form-returns-clause-read t c =
    let f = c.in_ok-take_word.ensures.read in
    let o = c.in_ok-expect.ensures.read in
    let i = c.in_ok-iterators.ensures.read in
    let u = c.in_ok-expect-2.ensures.read in
    let b = c.in_ok-body.ensures.read in
    let a = c.add.ensures in
    record {
      forward = omega (arith, f.forward, o.1, i.forward, u.1, b.forward, ap (λ (c : Cursor). c.at) a.from);
      few = omega (arith, f.forward, o.1, i.forward, u.1, b.few, a.count, ap (λ (c : Cursor). c.at) a.from);
      turns = λ s vs. covers c.args.place c.in_ok-take_word.ensures.read c.in_ok-expect.ensures.read.0 c.in_ok-iterators.ensures.read s _ ∙ u.0.turns _ _ ∙ b.turns _ _ ∙ done build _ _ _ _ _ ∙ added a (ap (λ z. construct.Form z c.in_ok-body.body.root) i.same) (sym c.deeper.ensures) s vs;
    }

-- ---- chains

-- from an operator of a chain's levels on
climbing : {old new : Cursor} (lowest top : ℕ) (o : Operator) → Climbs lowest top old new (Some o) → (s : List Item) (st : St) → on old (ladder (top - lowest) lowest ++ s) st ≡ on new (operand ∷ (ladder o.level 0 ++ (acts (join o.binary) ∷ again o.level (ladder (top - suc o.level) (suc o.level) ++ s)))) st
climbing lowest top o e s st =
    let t = tok e.next.token in
    let h = found_between lowest top (operator_of t) o (sym e.told) in
    turn e.peeked (found operator_of refl t o h.0) _ st _ st
    (climbs build (top - lowest) lowest s st t e.next.place o (top - suc o.level) h.0 h.1 (omega (arith, h.1, h.2)))
    ∙ ap (λ c. on c _ st) (sym e.moved)

-- without one, the chain ends
ended : {old new : Cursor} (lowest top : ℕ) → Climbs lowest top old new None → lowest ≤ top → (s : List Item) (st : St) → on old (ladder (top - lowest) lowest ++ s) st ≡ on new s st
ended lowest top e h s st =
    alike e.peeked (ladder (top - lowest) lowest ++ s) st s st (λ q. finish_ladder build (top - lowest) lowest s st q)
    (passes_over build (top - lowest) lowest s st _ _ (λ m a b. none_between lowest top _ (sym e.told) m a (omega arith)))
    ∙ ap (λ c. on c s st) (sym e.moved)

-- an operator goes on, and is of these levels
onto : {old new : Cursor} (lowest top : ℕ) (o : Operator) → Climbs lowest top old new (Some o) → (old.at < new.at) × (o.level < top)
onto lowest top o e =
    let t = tok e.next.token in
    let h = found_between lowest top (operator_of t) o (sym e.told) in
    (omega (arith, e.peeked.forward (found operator_of refl t o h.0), ap (λ (c : Cursor). c.at) e.moved), h.2)

-- what is due after it
again_other : (l top : ℕ) (s : List Item) → (l ≡ 2 → ⊥) → l < top → again l (ladder (top - suc l) (suc l) ++ s) ≡ ladder (top - l) l ++ s
again_other l top s n h =
    let e : eqb l 2 ≡ false = ne_eqb l 2 n in
    let k : suc (top - suc l) ≡ top - l = omega arith in
    (λ i. cond (e i) (ladder (top - suc l) (suc l) ++ s) (tail l ∷ (ladder (top - suc l) (suc l) ++ s))) ∙ ap (λ j. ladder j l ++ s) k

again_comparison : (l top : ℕ) (s : List Item) → l ≡ 2 → again l (ladder (top - suc l) (suc l) ++ s) ≡ ladder (top - 3) 3 ++ s
again_comparison l top s e = ap (λ j. again j (ladder (top - suc j) (suc j) ++ s)) e

pub chain-returns-in_err-right-clause-read : goal.chain-returns-in_err-right-clause-read
chain-returns-in_err-right-clause-read t c =
    let x = err_from_is_err_and c.from_residual-in_err-right.result c.from_residual-in_err-right.ensures.1 in
    rw (x.1, x.2) (λ s vs. c.in_ok-left.ensures.read.turns (ladder c.args.top 0 ++ s) vs ∙ c.loop-o.invariant.read.turns s vs ∙ climbing c.loop-o.lowest c.args.top c.in-Some.o c.in-Some.ensures.read s _ ∙ c.in_err-right.ensures.read _ _)

pub chain-loop-o-preserved-then-o-eq-COMPARISONS : goal.chain-loop-o-preserved-then-o-eq-COMPARISONS
chain-loop-o-preserved-then-o-eq-COMPARISONS t c =
    let i = c.loop-o.invariant in
    let g = onto c.loop-o.lowest c.args.top c.in-Some.o c.in-Some.ensures.read in
    let r = c.in_ok-right.ensures in
    let a = c.add-left.ensures in
    record {
      on = search rules;
      lowest = omega (arith, g.1, c.if-o-eq-COMPARISONS.true);
      read = record {
        forward = omega (arith, g.0, r.read.forward, i.read.forward, ap (λ (c : Cursor). c.at) a.from);
        few = omega (arith, g.0, r.read.few, i.read.few, a.count, ap (λ (c : Cursor). c.at) a.from);
        turns = λ s vs. i.read.turns s vs ∙ climbing c.loop-o.lowest c.args.top c.in-Some.o c.in-Some.ensures.read s _ ∙ r.read.turns _ _ ∙ done build _ _ _ _ _ ∙ added a refl (sym c.max.ensures) _ vs ∙ restacked _ _ _ (again_comparison c.in-Some.o.level c.args.top s c.if-o-eq-COMPARISONS.true);
      };
    }

pub chain-loop-o-preserved : goal.chain-loop-o-preserved
chain-loop-o-preserved t c =
    let i = c.loop-o.invariant in
    let g = onto c.loop-o.lowest c.args.top c.in-Some.o c.in-Some.ensures.read in
    let r = c.in_ok-right.ensures in
    let a = c.add-left.ensures in
    record {
      on = search rules;
      lowest = omega (arith, g.1);
      read = record {
        forward = omega (arith, g.0, r.read.forward, i.read.forward, ap (λ (c : Cursor). c.at) a.from);
        few = omega (arith, g.0, r.read.few, i.read.few, a.count, ap (λ (c : Cursor). c.at) a.from);
        turns = λ s vs. i.read.turns s vs ∙ climbing c.loop-o.lowest c.args.top c.in-Some.o c.in-Some.ensures.read s _ ∙ r.read.turns _ _ ∙ done build _ _ _ _ _ ∙ added a refl (sym c.max.ensures) _ vs ∙ restacked _ _ _ (again_other c.in-Some.o.level c.args.top s c.if-o-eq-COMPARISONS.false g.1);
      };
    }

pub chain-returns-clause-read : goal.chain-returns-clause-read
chain-returns-clause-read t c =
    let h = c.in_ok-left.ensures.read in
    let i = c.loop-o.invariant in
    record {
      forward = omega (arith, h.forward, i.read.forward);
      few = omega (arith, h.few, i.read.few);
      turns = λ s vs. h.turns (ladder c.args.top 0 ++ s) vs ∙ i.read.turns s vs ∙ ended c.loop-o.lowest c.args.top c.in_default.ensures.read i.lowest s _;
    }

-- ---- operands

-- no symbol that opens an operand
none_of : {A : Type 0} (o : Option A) (p q : ℕ) → ok_or o p ≡ Err q → (o ≡ None) × (p ≡ q)
none_of None p q e = let f : p ≡ q = cc in (refl, f)
none_of (Some a) p q e = cc

some_of : {A : Type 0} (o : Option A) (p : ℕ) (a : A) → ok_or o p ≡ Ok a → o ≡ Some a
some_of None p a e = cc
some_of (Some b) p a e = let f : b ≡ a = cc in ap Some f

-- a symbol that opens an operand, and what follows it
symbol_opens : (old mid new : Parser) (r : Result Done ℕ) {l : Lexed} {x : Symbol} {o : Opening} → Peeked old.from.text.now old.from.at l → tok l.token ≡ symbol x → opening x ≡ Some o → mid.from ≡ l.next → mid.count ≡ old.count → mid.nodes.now ≡ old.nodes.now → OpenedRead o l.place mid new r → Parsed (operand ∷ []) [] old new r
symbol_opens old mid new r {l} {x} {o} p e f m n k h = cases r h
  where
    opened_by : (s : List Item) (vs : List Val) → due old (operand ∷ s) vs ≡ opens o l.place mid s vs
    opened_by s vs =
        arm p e (operand ∷ s) (stands old vs)
        ∙ (λ i. onward (λ s' st'. on (sym m i) s' st') l.place (given (f i) (λ o. opened build o l.place (state vs (sym n i) (sym k i)) s)))

    cases : (r : Result Done ℕ) → OpenedRead o l.place mid new r → Parsed (operand ∷ []) [] old new r
    cases (Ok d) h = let lt = beyond p e refl in record {
      forward = omega (arith, lt, h.forward, ap (λ (c : Cursor). c.at) m);
      few = omega (arith, lt, h.few, n, ap (λ (c : Cursor). c.at) m);
      turns = λ s vs. opened_by s vs ∙ h.turns s vs;
    }
    cases (Err q) h = λ s vs. opened_by s vs ∙ h s vs

pub operand-returns-in_err-opening-in-Symbol-clause-read : goal.operand-returns-in_err-opening-in-Symbol-clause-read
operand-returns-in_err-opening-in-Symbol-clause-read t c =
    let x = err_from_is_err_and c.from_residual.result c.from_residual.ensures.1 in
    let n = none_of c.opening_of.result c.next-t.result.place _ (sym c.ok_or.ensures.value ∙ c.in_err-opening-in-Symbol.was) in
    let o : opening c.in-Symbol.s ≡ None = sym c.opening_of.ensures ∙ n.0 in
    rw (x.1, x.2) (λ s vs.
    arm c.next-t.ensures.next (ap tok c.in-Symbol.is) (operand ∷ s) _
    ∙ ap (λ z. onward (λ s' st'. on c.next-t.result.next s' st') c.next-t.result.place (given z (λ o. opened build o c.next-t.result.place (stands c.args.self.now vs) s))) o
    ∙ ap refused n.1)

pub operand-returns-in-Symbol-clause-read : goal.operand-returns-in-Symbol-clause-read
operand-returns-in-Symbol-clause-read t c =
    let o = some_of c.opening_of.result c.next-t.result.place _ (sym c.ok_or.ensures.value ∙ c.in_ok-opening-in-Symbol.was) in
    symbol_opens c.args.self.now _ c.opened.new.self c.opened.result c.next-t.ensures.next (ap tok c.in-Symbol.is) (sym c.opening_of.ensures ∙ o) c.next-t.ensures.moved refl refl c.opened.ensures.read

pub operand-returns-in-Bad-clause-read : goal.operand-returns-in-Bad-clause-read
operand-returns-in-Bad-clause-read t c =
    λ s vs. ⊎_elim (λ e. arm c.next-t.ensures.next (ap tok e) (operand ∷ s) _) (λ e. arm c.next-t.ensures.next (ap tok e) (operand ∷ s) _) c.in-Bad.is

pub operand-returns-clause-read : goal.operand-returns-clause-read
operand-returns-clause-read t c =
    let p = c.next-t.ensures.next in
    let a = c.add-d.ensures in
    let lt : c.args.self.now.from.at < c.next-t.result.next.at =
    elim c.match-t.branch [
      | operand-in-Numeral w ↦ beyond p (ap tok w.in-Numeral.is) refl
      | operand-in-Variable w ↦ beyond p (ap tok w.in-Variable.is) refl
      | operand-in-Word w ↦ beyond p (ap tok w.in-Word.is) refl
    ] in
    joins _ c.subsets.result (record {
      forward = omega (arith, lt, ap (λ (c : Cursor). c.at) c.next-t.ensures.moved, ap (λ (c : Cursor). c.at) a.from);
      few = omega (arith, lt, a.count, ap (λ (c : Cursor). c.at) c.next-t.ensures.moved, ap (λ (c : Cursor). c.at) a.from);
      turns = λ s vs. elim c.match-t.branch [
        | operand-in-Numeral w ↦ arm_to p (ap tok w.in-Numeral.is) (operand ∷ s) _ c.next-t.ensures.moved ∙ added a (sym w.leaf-is) refl (subsets ∷ s) vs
        | operand-in-Variable w ↦ arm_to p (ap tok w.in-Variable.is) (operand ∷ s) _ c.next-t.ensures.moved ∙ added a (sym w.leaf-is) refl (subsets ∷ s) vs
        | operand-in-Word w ↦ arm_to p (ap tok w.in-Word.is) (operand ∷ s) _ c.next-t.ensures.moved ∙ added a (sym w.leaf-is) refl (subsets ∷ s) vs
      ];
    }) c.subsets.ensures.read

pub opened-returns-in_ok-d-in-Prefix-clause-read : goal.opened-returns-in_ok-d-in-Prefix-clause-read
opened-returns-in_ok-d-in-Prefix-clause-read t c =
    let h = c.in_ok-d-in-Prefix.ensures.read in
    let a = c.add.ensures in
    subst (λ o. Opens o c.args.place c.args.self.now c.add.new.self c.add.result) (sym c.in-Prefix.is) (record {
      forward = omega (arith, h.forward, ap (λ (c : Cursor). c.at) a.from);
      few = omega (arith, h.few, a.count, ap (λ (c : Cursor). c.at) a.from);
      turns = λ s vs. h.turns (acts (prefix c.args.place c.in-Prefix.u) ∷ s) vs ∙ done build _ _ _ _ _ ∙ added a refl refl s vs;
    })

pub round-returns-clause-read : goal.round-returns-clause-read
round-returns-clause-read t c =
    let h = c.in_ok-d.ensures.read in
    let z = c.in_ok-expect.ensures.read in
    joins _ c.subsets.result (record {
      forward = omega (arith, h.forward, z.1);
      few = omega (arith, h.few, z.1);
      turns = λ s vs. h.turns _ _ ∙ z.0.turns _ _ ∙ done build _ _ _ _ _ ∙ redepthed _ _ _ _ _ _ _ _ (sym c.deeper.ensures);
    }) c.subsets.ensures.read

pub function-returns-clause-read : goal.function-returns-clause-read
function-returns-clause-read t c =
    let o = c.in_ok-expect.ensures.read in
    let h = c.in_ok-d.ensures.read in
    let z = c.in_ok-expect-2.ensures.read in
    let a = c.add-d.ensures in
    let k : applied c.args.f c.in_ok-d.d.root ≡ c.match-f.construct =
    elim c.match-f.branch [
      | function-in-Abs w ↦ ap (λ f. applied f c.in_ok-d.d.root) w.in-Abs.is ∙ sym w.construct-is
      | function-in-Over w ↦ ap (λ f. applied f c.in_ok-d.d.root) w.in-Over.is ∙ sym w.construct-is
    ] in
    joins _ c.subsets.result (record {
      forward = omega (arith, o.1, h.forward, z.1, ap (λ (c : Cursor). c.at) a.from);
      few = omega (arith, o.1, h.few, z.1, a.count, ap (λ (c : Cursor). c.at) a.from);
      turns = λ s vs. o.0.turns _ _ ∙ h.turns _ _ ∙ z.0.turns _ _ ∙ done build _ _ _ _ _ ∙ added a k (sym c.deeper.ensures) (subsets ∷ s) vs;
    }) c.subsets.ensures.read

-- ---- square brackets

-- no square bracket follows
no_square : {old : Cursor} (new : Cursor) → Eaten the.OpenSquare old new false → (s : List Item) (st : St) → on old (subsets ∷ s) st ≡ on new s st
no_square {old} new e s st = left old new e (subsets ∷ s) st s (λ _. refl) (λ i. cond (e.told i) (moved (entry none_seen ∷ subsets ∷ s) st) (pops build s st (tok e.next.token) e.next.place))

-- no comma follows an entry, and the bracket is due to end
no_comma : {old : Cursor} (new : Cursor) → Eaten the.Comma old new false → (x : Seen) (s : List Item) (st : St) → on old (entries x ∷ s) st ≡ on new (must the.CloseSquare ∷ s) st
no_comma {old} new e x s st = left old new e (entries x ∷ s) st _ (λ _. refl) (λ i. cond (e.told i) (moved (entry x ∷ s) st) (when (is the.CloseSquare (tok e.next.token)) s st))

-- one more axis is marked
marked : (seen : Seen) (x : Axis) (r : Seen) → ((a : Axis) → entry_of r a ≡ changed (entry_of seen) x true a) → marks seen x ≡ r
marked seen X r h = λ i. record { x = sym (h X) i; y = sym (h Y) i; t = sym (h T) i }
marked seen Y r h = λ i. record { x = sym (h X) i; y = sym (h Y) i; t = sym (h T) i }
marked seen T r h = λ i. record { x = sym (h X) i; y = sym (h Y) i; t = sym (h T) i }

-- the axis of an entry, and its open bracket
entered : (seen : Seen) {a b d : Cursor} {x : Axis} → Taken Axis Axis axis_of (λ x p. x) a b x → Passes (must the.Open ∷ []) [] b d → (g : Bool) → g ≡ holds seen x → (s : List Item) (st : St) → on a (entry seen ∷ s) st ≡ on d (arg g x ∷ entries (marks seen x) ∷ s) st
entered seen {x = x} h o g e s st =
    took_it h _ (λ x _. must the.Open ∷ arg (holds seen x) x ∷ entries (marks seen x) ∷ s) (λ _ _ _. refl) st
    ∙ o.turns _ st
    ∙ restacked _ _ st (ap (λ g. arg g x ∷ entries (marks seen x) ∷ s) (sym e))

pub subsets-returns-in_err-d-clause-read : goal.subsets-returns-in_err-d-clause-read
subsets-returns-in_err-d-clause-read t c =
    let x = err_from_is_err_and c.from_residual.result c.from_residual.ensures.1 in
    rw (x.1, x.2) (λ s vs. c.loop-self.invariant.read.turns s vs ∙ ate c.loop-self-test.ensures.read (subsets ∷ s) _ (entry none_seen ∷ subsets ∷ s) refl ∙ c.in_err-d.ensures.read _ _)

pub subsets-loop-self-preserved : goal.subsets-loop-self-preserved
subsets-loop-self-preserved t c =
    let i = c.loop-self.invariant.read in
    let p = c.loop-self-test.ensures.on in
    let h = c.in_ok-d.ensures.read in
    record {
      on = search rules;
      read = record {
        forward = omega (arith, p.forward, i.forward, h.forward);
        few = omega (arith, p.forward, i.few, h.few);
        turns = λ s vs. i.turns s vs ∙ ate c.loop-self-test.ensures.read (subsets ∷ s) _ (entry none_seen ∷ subsets ∷ s) refl ∙ h.turns _ _;
      };
    }

pub subsets-returns-clause-read : goal.subsets-returns-clause-read
subsets-returns-clause-read t c =
    let i = c.loop-self.invariant.read in
    let p = c.loop-self-test.ensures.on in
    record {
      forward = omega (arith, p.forward, i.forward);
      few = omega (arith, p.forward, i.few);
      turns = λ s vs. i.turns s vs ∙ no_square c.eat.new.from c.loop-self-test.ensures.read s _;
    }

pub entries-returns-in_err-axis-clause-read : goal.entries-returns-in_err-axis-clause-read
entries-returns-in_err-axis-clause-read t c =
    let x = err_from_is_err_and c.from_residual.result c.from_residual.ensures.1 in
    rw (x.1, x.2) (λ s vs. missed c.in_err-axis.ensures.read _ (λ a _. must the.Open ∷ arg (holds c.args.seen a) a ∷ entries (marks c.args.seen a) ∷ s) (λ _ _ _. refl) (λ _ _. refl) _)

pub entries-returns-in_err-expect-clause-read : goal.entries-returns-in_err-expect-clause-read
entries-returns-in_err-expect-clause-read t c =
    let x = err_from_is_err_and c.from_residual-in_err-expect.result c.from_residual-in_err-expect.ensures.1 in
    rw (x.1, x.2) (λ s vs. took_it c.in_ok-axis.ensures.read _ (λ a _. must the.Open ∷ arg (holds c.args.seen a) a ∷ entries (marks c.args.seen a) ∷ s) (λ _ _ _. refl) _ ∙ c.in_err-expect.ensures.read _ _)

pub entries-returns-in_err-d-clause-read : goal.entries-returns-in_err-d-clause-read
entries-returns-in_err-d-clause-read t c =
    let x = err_from_is_err_and c.from_residual-in_err-d.result c.from_residual-in_err-d.ensures.1 in
    rw (x.1, x.2) (λ s vs. entered c.args.seen c.in_ok-axis.ensures.read c.in_ok-expect.ensures.read.0 c.on.result c.on.ensures s _ ∙ c.in_err-d.ensures.read _ _)

pub entries-returns-then-eat-clause-read : goal.entries-returns-then-eat-clause-read
entries-returns-then-eat-clause-read t c =
    let a = c.in_ok-axis.ensures.read in
    let o = c.in_ok-expect.ensures.read in
    let h = c.in_ok-d.ensures.read in
    let p = c.if-eat.ensures.on in
    joins _ c.entries.result (record {
      forward = omega (arith, a.forward, o.1, h.forward, p.forward);
      few = omega (arith, a.forward, o.1, h.few, p.forward);
      turns = λ s vs. entered c.args.seen c.in_ok-axis.ensures.read c.in_ok-expect.ensures.read.0 c.on.result c.on.ensures s _ ∙ h.turns _ _ ∙ ate c.if-eat.ensures.read _ _ (entry (marks c.args.seen c.in_ok-axis.axis) ∷ s) refl ∙ restacked _ _ _ (ap (λ z. entry z ∷ s) (marked c.args.seen c.in_ok-axis.axis c.with.result c.with.ensures));
    }) c.entries.ensures.read

pub entries-returns-in_err-expect-2-clause-read : goal.entries-returns-in_err-expect-2-clause-read
entries-returns-in_err-expect-2-clause-read t c =
    let x = err_from_is_err_and c.from_residual-in_err-expect-2.result c.from_residual-in_err-expect-2.ensures.1 in
    rw (x.1, x.2) (λ s vs. entered c.args.seen c.in_ok-axis.ensures.read c.in_ok-expect.ensures.read.0 c.on.result c.on.ensures s _ ∙ c.in_ok-d.ensures.read.turns _ _ ∙ no_comma c.eat.new.from c.if-eat.ensures.read (marks c.args.seen c.in_ok-axis.axis) s _ ∙ c.in_err-expect-2.ensures.read _ _)

pub entries-returns-clause-read : goal.entries-returns-clause-read
entries-returns-clause-read t c =
    let a = c.in_ok-axis.ensures.read in
    let o = c.in_ok-expect.ensures.read in
    let h = c.in_ok-d.ensures.read in
    let p = c.if-eat.ensures.on in
    let z = c.in_ok-expect-2.ensures.read in
    record {
      forward = omega (arith, a.forward, o.1, h.forward, p.forward, z.1);
      few = omega (arith, a.forward, o.1, h.few, p.forward, z.1);
      turns = λ s vs. entered c.args.seen c.in_ok-axis.ensures.read c.in_ok-expect.ensures.read.0 c.on.result c.on.ensures s _ ∙ h.turns _ _ ∙ no_comma c.eat.new.from c.if-eat.ensures.read (marks c.args.seen c.in_ok-axis.axis) s _ ∙ z.0.turns _ _;
    }

-- ---- ranges and positions

pub argument-returns-in_err-hi-in-Some-clause-read : goal.argument-returns-in_err-hi-in-Some-clause-read
argument-returns-in_err-hi-in-Some-clause-read t c =
    let x = err_from_is_err_and c.from_residual.result c.from_residual.ensures.1 in
    rw (x.1, x.2) (λ s vs. (c.in-Some.ensures.read c.args.again c.args.axis).turns s _ ∙ c.in_err-hi-in-Some.ensures.read _ _ _ _)

pub argument-returns-in_err-position-in-None-clause-read : goal.argument-returns-in_err-position-in-None-clause-read
argument-returns-in_err-position-in-None-clause-read t c =
    let x = err_from_is_err_and c.from_residual-in_err-position-in-None.result c.from_residual-in_err-position-in-None.ensures.1 in
    rw (x.1, x.2) (λ s vs. (c.in-None.ensures.read c.args.again c.args.axis).turns s _ ∙ c.in_err-position-in-None.ensures.read _ _)

pub argument-returns-in_err-expect-in-None-clause-read : goal.argument-returns-in_err-expect-in-None-clause-read
argument-returns-in_err-expect-in-None-clause-read t c =
    let x = err_from_is_err_and c.from_residual-in_err-expect-in-None.result c.from_residual-in_err-expect-in-None.ensures.1 in
    rw (x.1, x.2) (λ s vs. (c.in-None.ensures.read c.args.again c.args.axis).turns s _ ∙ c.in_ok-position-in-None.ensures.read.turns _ _ ∙ c.in_err-expect-in-None.ensures.read _ _)

pub argument-returns-in_ok-hi-in-Some-clause-read : goal.argument-returns-in_ok-hi-in-Some-clause-read
argument-returns-in_ok-hi-in-Some-clause-read t c =
    let m = c.in-Some.ensures.read c.args.again c.args.axis in
    let b = c.in_ok-hi-in-Some.ensures.read in
    let a = c.add.ensures in
    let lo : to_z w64 (of_z w64 c.in-Some.lo) ≡ c.in-Some.lo = to_z-of_z w64 _ (search rules) in
    let hi : to_z w64 (of_z w64 c.in_ok-hi-in-Some.hi) ≡ c.in_ok-hi-in-Some.hi = to_z-of_z w64 _ (search rules) in
    record {
      forward = omega (arith, m.forward, b.forward, ap (λ (c : Cursor). c.at) a.from);
      few = omega (arith, m.forward, b.forward, a.count, ap (λ (c : Cursor). c.at) a.from);
      turns = λ s vs. m.turns s _ ∙ b.turns _ _ _ _ ∙ done build _ _ _ _ _ ∙ added a (λ i. construct.Trim c.args.again c.args.axis (spanning (sym lo i) (sym hi i)) c.args.of.root) refl s vs;
    }

pub argument-returns-in_ok-expect-in-None-clause-read : goal.argument-returns-in_ok-expect-in-None-clause-read
argument-returns-in_ok-expect-in-None-clause-read t c =
    let m = c.in-None.ensures.read c.args.again c.args.axis in
    let b = c.in_ok-position-in-None.ensures.read in
    let z = c.in_ok-expect-in-None.ensures.read in
    let a = c.add-in-None.ensures in
    record {
      forward = omega (arith, m.forward, b.forward, z.1, ap (λ (c : Cursor). c.at) a.from);
      few = omega (arith, m.forward, b.few, z.1, a.count, ap (λ (c : Cursor). c.at) a.from);
      turns = λ s vs. m.turns s _ ∙ b.turns _ _ ∙ z.0.turns _ _ ∙ done build _ _ _ _ _ ∙ added a refl (sym (c.max.ensures ∙ ap (max c.args.of.inner) c.deeper.ensures)) s vs;
    }
