-- What a text says is what the grammar derives from its tokens.
use Rattle.std.proofs.Common.{◌≡◌, ℕ, ◌+◌, ◌<◌, ◌≤◌, Bool, true, false, cond, ◌||◌, ltb, ◌⊎◌, List, [], length, Some, None, Ok, Err, Option, Result, sym, refl, ap, ◌∙◌, subst, ap₂, inl, inr, ltb-false, ltb-true, le-ltb, lt-ltb}
use Rattle.syntax.specs.Tree.{Binding, Expr, Query}
use Rattle.lexer.specs.Toks.{toks, first_bad}
use Rattle.parser.specs.declared.fault.TextFault.{TextFault}
use Rattle.parser.specs.declared.fault.TextFault.TheVariants.{TooLong, NoQuery, TooLarge}
use Rattle.parser.specs.Actions.{St, state, build}
use Rattle.parser.specs.Yields.{Yield, mean}
use Rattle.parser.specs.Tables.{constructs}
use Rattle.parser.specs.Machine.{Verdict, accepted, refused, query}
use Rattle.parser.specs.Grammar.{Derives}
use Rattle.parser.specs.Texts as table
use Rattle.parser.specs.Theorem.{Clean, MeantBy, Meant}
use Rattle.parser.proofs.Back.{Ends, sound, admitted}
use Rattle.parser.proofs.Whole.{Reached, reach_query}
use Rattle.parser.proofs.Control.{Agree, agree}
use Rattle.parser.proofs.Meaning.{meant}
use Rattle.parser.specs.Says.{text_says, longest_text, most_constructs, deepest, too_large, read_as, measured, unless_bad}
use Rattle.parser.specs.Derived.{Derived, Means, DerivedIsSaid, TextsSayWhatTheGrammarDerives}

-- ---- what the grammar derives is read

reads_as : (text : List ℕ) (q : Query) (depth : ℕ) → Derives q depth (toks text 0) → Reached q depth (length text) (toks text 0)
reads_as text q depth d = reach_query d (length text)

size_of : (q : Query) (depth : ℕ) (y : Yield) → q.body ≡ y.tree → depth ≡ y.inner + 1 → (ltb most_constructs (constructs q.body) || ltb deepest depth) ≡ too_large y
size_of q depth y b d = ap (λ e. ltb most_constructs (constructs e) || ltb deepest depth) b ∙ ap (λ n. ltb most_constructs (constructs y.tree) || ltb deepest n) d

-- the answer to a text from which the grammar derives a query
measured_is : (text : List ℕ) (q : Query) (depth : ℕ) → Derives q depth (toks text 0) → measured (read_as text) ≡ cond (ltb most_constructs (constructs q.body) || ltb deepest depth) (Err TooLarge) (Ok q)
measured_is text q depth d =
    let r = reads_as text q depth d in
    let y = r.yield in
    let made : Query → Result Query TextFault = λ x. Ok x in
    ap measured r.verdict
    ∙ (ap (λ b. cond b (Err TooLarge) (Ok (record { bindings = q.bindings; body = y.tree }))) (sym (size_of q depth y r.body r.deep))
    ∙ ap (λ e. cond (ltb most_constructs (constructs q.body) || ltb deepest depth) (Err TooLarge) (made (record { bindings = q.bindings; body = e }))) (sym r.body))

clean_says : (text : List ℕ) → Clean text → text_says text ≡ measured (read_as text)
unfolding text_says
clean_says text c =
    ap (λ b. cond b (Err TooLong) (unless_bad (first_bad (toks text 0)) (measured (read_as text)))) (le-ltb longest_text (length text) c.short)
    ∙ ap (λ o. unless_bad o (measured (read_as text))) c.tokens

-- the answer to a text from which a query is derived, by its size
derived_says : (text : List ℕ) (q : Query) (depth : ℕ) → Derived text q depth → text_says text ≡ cond (ltb most_constructs (constructs q.body) || ltb deepest depth) (Err TooLarge) (Ok q)
derived_says text q depth d = clean_says text d.clean ∙ measured_is text q depth d.derives

small : (a b : Bool) → a ≡ false → b ≡ false → (a || b) ≡ false
small a b e f = rw (e, f)

large : (m n a b : ℕ) → (m < n) ⊎ (a < b) → (ltb m n || ltb a b) ≡ true
large m n a b (inl h) = ap (λ x. x || ltb a b) (lt-ltb m n h)
large m n a b (inr h) = ap (λ x. ltb m n || x) (lt-ltb a b h) ∙ or_right (ltb m n)
  where
    or_right : (x : Bool) → (x || true) ≡ true
    or_right true = refl
    or_right false = refl

derived_said : (text : List ℕ) → DerivedIsSaid text
derived_said text = record {
  within = λ q depth d w. derived_says text q depth d ∙ ap (λ b. cond b (Err TooLarge) (Ok q)) (small _ _ (le-ltb most_constructs (constructs q.body) w.few) (le-ltb deepest depth w.shallow));
  beyond = λ q depth d w. derived_says text q depth d ∙ ap (λ b. cond b (Err TooLarge) (Ok q)) (large most_constructs (constructs q.body) deepest depth w);
}

-- ---- what each answer means

beyond : (a b : Bool) → (a || b) ≡ true → (a ≡ true) ⊎ (b ≡ true)
beyond true b e = inl refl
beyond false b e = inr e

neither : (a b : Bool) → (a || b) ≡ false → (a ≡ false) × (b ≡ false)
neither true b e = cc
neither false b e = (refl, e)

over : (m n a b : ℕ) → (ltb m n ≡ true) ⊎ (ltb a b ≡ true) → (m < n) ⊎ (a < b)
over m n a b (inl e) = inl (ltb-true m n e)
over m n a b (inr e) = inr (ltb-true a b e)

derived_means : (text : List ℕ) (q : Query) (depth : ℕ) → Derived text q depth → Means text (cond (ltb most_constructs (constructs q.body) || ltb deepest depth) (Err TooLarge) (Ok q))
derived_means text q depth d = go (ltb most_constructs (constructs q.body) || ltb deepest depth) refl
  where
    go : (b : Bool) → (ltb most_constructs (constructs q.body) || ltb deepest depth) ≡ b → Means text (cond b (Err TooLarge) (Ok q))
    go true e = (q, depth, d, over most_constructs (constructs q.body) deepest depth (beyond _ _ e))
    go false e =
        let n = neither (ltb most_constructs (constructs q.body)) (ltb deepest depth) e in
        (depth, d, record { few = ltb-false _ _ n.0; shallow = ltb-false _ _ n.1 })

-- where reading trees is stuck, reading a table is stuck at the same place
also_refused : (p : ℕ) (u : Verdict (List Yield)) (v : Verdict St) → u ≡ refused p → Agree u v → v ≡ refused p
also_refused p (accepted cs ys) v e a = cc
also_refused p (refused n) (accepted bs st) e a = absurd a
also_refused p (refused n) (refused q) e a = let z : n ≡ p = cc in ap (λ (k : ℕ). refused k) (sym a ∙ z)

refused_means : (text : List ℕ) (p : ℕ) → Clean text → read_as text ≡ refused p → MeantBy text (NoQuery p)
refused_means text p c e =
    let v = table.judged text [] in
    let stuck : v ≡ refused p = also_refused p (read_as text) v e (agree mean build (length text) query [] (state [] 0 []) (toks text 0)) in
    let is : table.answered text [] ≡ Err (NoQuery p) =
    ap (λ b. cond b (Err TooLong) (table.unless_bad (first_bad (toks text 0)) (table.measured (table.outcome v)))) (le-ltb longest_text (length text) c.short)
    ∙ (ap (λ o. table.unless_bad o (table.measured (table.outcome v))) c.tokens ∙ ap (λ x. table.measured (table.outcome x)) stuck) in
    subst (Meant text) is (meant text [])

read_means : (text : List ℕ) → Clean text → (v : Verdict (List Yield)) → read_as text ≡ v → Means text (measured v)
read_means text c (refused p) e = refused_means text p c e
read_means text c (accepted bs ys) e =
    let g = admitted (toks text 0) (sound mean (length text) query [] (toks text 0) (subst Ends (sym e) tt)) in
    let d : Derived text g.0 g.1 = record { clean = c; derives = g.2 } in
    subst (Means text) (sym (measured_is text g.0 g.1 g.2) ∙ ap measured e) (derived_means text g.0 g.1 d)

scanned_means : (text : List ℕ) → length text ≤ longest_text → (o : Option ℕ) → first_bad (toks text 0) ≡ o → Means text (unless_bad o (measured (read_as text)))
scanned_means text h (Some p) e = (h, e)
scanned_means text h None e = read_means text (record { short = h; tokens = e }) (read_as text) refl

each_means : (text : List ℕ) → Means text (text_says text)
unfolding text_says
each_means text = go (ltb longest_text (length text)) refl
  where
    go : (b : Bool) → ltb longest_text (length text) ≡ b → Means text (cond b (Err TooLong) (unless_bad (first_bad (toks text 0)) (measured (read_as text))))
    go true e = ltb-true longest_text (length text) e
    go false e = scanned_means text (ltb-false longest_text (length text) e) (first_bad (toks text 0)) refl

-- ---- one query at most

same_query : (q other : Query) → q.bindings ≡ other.bindings → q.body ≡ other.body → q ≡ other
same_query q other e f =
    let made : List Binding → Expr → Query = λ bs b. record { bindings = bs; body = b } in
    ap₂ made e f

one_query : (text : List ℕ) (q other : Query) (depth d : ℕ) → Derived text q depth → Derived text other d → (q ≡ other) × (depth ≡ d)
one_query text q other depth d h k =
    let a = reads_as text q depth h.derives in
    let b = reads_as text other d k.derives in
    let x = a.verdict in
    let y = b.verdict in
    let yields : a.yield ≡ b.yield = cc in
    let bindings : q.bindings ≡ other.bindings = cc in
    let body : q.body ≡ other.body = a.body ∙ (ap (λ (z : Yield). z.tree) yields ∙ sym b.body) in (
      same_query q other bindings body,
      a.deep ∙ (ap (λ (z : Yield). z.inner + 1) yields ∙ sym b.deep),
    )

pub texts_say_what_the_grammar_derives_lem : TextsSayWhatTheGrammarDerives
texts_say_what_the_grammar_derives_lem = record { each_answer_is_meant = each_means; what_is_derived_is_said = derived_said; one_query_at_most = one_query }
