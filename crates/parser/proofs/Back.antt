-- A move of the machine undone: what the new stack derives, with the token before it, the old stack derives.
use Rattle.std.proofs.Common.{◌≡◌, ℕ, zero, suc, ◌+◌, Bool, true, false, cond, eqb, List, [], ◌∷◌, ◌++◌, ℤ, pos, neg_ℤ, Some, None, Option, sym, refl, ap, ◌∙◌, subst, arith}
use Rattle.std.proofs.lemmas.Bool.{cond_both}
use Rattle.coverage.specs.declared.axis.Axis.{Axis}
use Rattle.syntax.specs.Tree.{Binding}
use Rattle.syntax.specs.declared.Unary.TheVariants as unary
use Rattle.syntax.specs.declared.Binary.{Binary}
use Rattle.lexer.specs.declared.symbol.Symbol.TheVariants as the
use Rattle.lexer.specs.Tokens.{Tok, word, variable, numeral, symbol, bad, end}
use Rattle.lexer.specs.Toks.{Placed}
use Rattle.parser.specs.declared.roles.Opening.{Opening}
use Rattle.parser.specs.declared.roles.Opening.TheVariants as opens
use Rattle.parser.specs.Axes.{Seen, axis_of, marks}
use Rattle.parser.specs.Roles.{is, opening, opening_of, fold_of, join_of, number_of, word_of, variable_of}
use Rattle.parser.specs.Actions.{Placing, Action, leaf, number, prefix, slice, join}
use Rattle.parser.specs.Yields.{functioned}
use Rattle.parser.specs.Machine as m
use Rattle.parser.specs.Machine.{Item, Head, Edge, condensing, covering, upper, trims, Moved, stuck, moved, pops, begins, opened, starts, bodies, given, either, when, ladder, levels, again, follows, iterating2, returning, finish, Verdict, accepted, refused, verdict, onward}
use Rattle.parser.specs.Grammar as gr
use Rattle.parser.specs.Grammar.{Is, Numeral, Worded, Variable, OnAxis, Sign, Joins, Opens, Limit, Sort, Gets, expression, level, subset, primary, Admits}
use Rattle.parser.proofs.See.{symbol_is}
use Rattle.parser.proofs.Comes as co
use Rattle.parser.proofs.Comes.{Comes, Then, Entries, Entry, of_expr, of_operand, of_did, of_symbol, of_bound, of_entry, subs, chained, condenses, covers, all_bindings, Reads, climb, raised}

abbrev pub After : {S : Type 0} → Moved S → List Placed → Type 0
After stuck ts = ⊥
After (moved s st) ts = Comes s ts

pub given_both : {A S : Type 0} (o : Option A) (f : A → Moved S) (P : Moved S → Type 0) → ((a : A) → o ≡ Some a → P (f a)) → P stuck → P (given o f)
given_both (Some a) f P h g = h a refl
given_both None f P h g = g

pub either_both : {A S : Type 0} (o : Option A) (f : A → Moved S) (w : Moved S) (P : Moved S → Type 0) → ((a : A) → o ≡ Some a → P (f a)) → (o ≡ None → P w) → P (either o f w)
either_both (Some a) f w P h g = h a refl
either_both None f w P h g = g refl

-- a primary with its subsets is an operand
operand_of : {ts : List Placed} {s : List Item} → Then subset ts s → Then (level 0) ts s
operand_of r = (r.0, r.1, gr.plain r.2, r.3)

opened_back : {S : Type 0} (act : Action → S → S) (o : Opening) (t : Placed) (st : S) (s : List Item) (ts : List Placed) → Opens o t → After (opened act o t.1 st s) ts → Then (level 0) (t ∷ ts) s
opened_back act opens.Round t st s ts e c =
    let x = of_expr c in
    let z = of_symbol x.3 in
    operand_of (subs (gr.whole (gr.round e (subst (λ l. Gets expression x.0 ts l) z.2 x.2) z.3)) (of_did z.4))
opened_back act (opens.Truth b) t st s ts e c = operand_of (subs (gr.whole (gr.truth e)) c)
opened_back act (opens.Prefix u) t st s ts e c = let x = of_operand c in (_, x.1, gr.prefix e x.2, of_did x.3)
opened_back act (opens.Function f) t st s ts e c =
    let o = of_symbol c in
    let x = of_expr o.4 in
    let z = of_symbol x.3 in
    let g : Gets primary (functioned t.1 f x.0) (t ∷ ts) z.1 =
    subst (λ l. Gets primary (functioned t.1 f x.0) (t ∷ l) z.1) (sym o.2) (gr.function e o.3 (subst (λ l. Gets expression x.0 o.1 l) z.2 x.2) z.3) in
    operand_of (subs (gr.whole g) (of_did z.4))

opening_back : {S : Type 0} (act : Action → S → S) (o : Option Opening) (t : Placed) (st : S) (s : List Item) (ts : List Placed) → opening_of t.0 ≡ o → After (given o (λ o. opened act o t.1 st s)) ts → Then (level 0) (t ∷ ts) s
opening_back act (Some o) t st s ts e c = opened_back act o t st s ts e c
opening_back act None t st s ts e c = absurd c

begins_back : {S : Type 0} (act : Action → S → S) (t : Tok) (p : ℕ) (st : S) (s : List Item) (ts : List Placed) → After (begins act t p st s) ts → Then (level 0) ((t, p) ∷ ts) s
begins_back act (word w) p st s ts c = operand_of (subs (gr.whole (gr.iterator refl)) c)
begins_back act (variable w) p st s ts c = operand_of (subs (gr.whole (gr.name refl)) c)
begins_back act (numeral n) p st s ts c = operand_of (subs (gr.whole (gr.number refl)) c)
begins_back act (symbol x) p st s ts c = opening_back act (opening x) (symbol x, p) st s ts refl c
begins_back act bad p st s ts c = absurd c
begins_back act end p st s ts c = absurd c

starts_back : {S : Type 0} (act : Action → S → S) (t : Tok) (p : ℕ) (st : S) (s : List Item) (ts : List Placed) → After (starts act t p st s) ts → Then expression ((t, p) ∷ ts) s
starts_back act t p st s ts =
    cond_both (is the.Condense t) _ _ (λ w. After w ts → Then expression ((t, p) ∷ ts) s)
    (λ e c. condenses e c)
    (λ _. cond_both (is the.Coverage t) _ _ (λ w. After w ts → Then expression ((t, p) ∷ ts) s)
    (λ e c. covers e c)
    (λ _ c. chained (begins_back act t p st (levels ++ s) ts c)))

-- what stands between an entry's brackets, once it is seen to be an expression
sliced : {b : Bool} {a : Axis} {x : Action} {ts : List Placed} {s : List Item} → Then expression ts (m.must the.Close ∷ m.acts x ∷ s) → Comes (m.arg b a ∷ s) ts
sliced {ts = ts} x =
    let z = of_symbol x.3 in
    co.arg_slice (subst (λ q. Gets expression x.0 ts q) z.2 x.2) z.3 (of_did z.4)

-- once an end of a range and its colon are seen
trimmed : {b : Bool} {a : Axis} {v : ℤ} {l : Placed} {ts us : List Placed} {s : List Item} → Limit v ts (l ∷ us) → Is the.Colon l → Comes (m.bound (upper (trims b a) v) ∷ s) us → Comes (m.arg b a ∷ s) ts
trimmed {us = us} g e c =
    let b = of_bound c in
    let z = of_symbol b.3 in
    co.arg_trim g e (subst (λ q. Limit b.0 us q) z.2 b.2) z.3 (of_did z.4)

arg_number : {b : Bool} {a : Axis} {x : Placed} {n p : ℕ} {y : Action} {s : List Item} {ts : List Placed} → Numeral n x → Comes (m.arg_numeral b a (pos n) n p 9 ∷ m.subsets ∷ (levels ++ (m.must the.Close ∷ m.acts y ∷ s))) ts → Comes (m.arg b a ∷ s) (x ∷ ts)
arg_number e (co.num_on c) = sliced (chained (operand_of (subs (gr.whole (gr.number e)) c)))
arg_number e (co.num_colon d c) = trimmed (gr.above e) d c

abbrev Minus : Placed → Type 0
Minus t = Opens (opens.Prefix unary.Minus) t

negated : {t : Placed} {ts : List Placed} {s : List Item} {x : Action} → Minus t → Then (level 0) ts (m.acts x ∷ s) → Then (level 0) (t ∷ ts) s
negated e x = (_, x.1, gr.prefix e x.2, of_did x.3)

arg_minus_number : {b : Bool} {a : Axis} {x y : Placed} {n p q : ℕ} {u : Action} {s : List Item} {ts : List Placed} → Is the.Minus x → Minus x → Numeral n y → Comes (m.arg_numeral b a (neg_ℤ (pos n)) n p 10 ∷ m.subsets ∷ m.acts (prefix q unary.Minus) ∷ (levels ++ (m.must the.Close ∷ m.acts u ∷ s))) ts → Comes (m.arg b a ∷ s) (x ∷ y ∷ ts)
arg_minus_number e o f (co.num_on c) = sliced (chained (negated o (operand_of (subs (gr.whole (gr.number f)) c))))
arg_minus_number e o f (co.num_colon d c) = trimmed (gr.below e f) d c

arg_minused : {b : Bool} {a : Axis} {x : Placed} {q : ℕ} {u : Action} {s : List Item} {ts : List Placed} → Is the.Minus x → Minus x → Comes (m.arg_minus b a q ∷ m.must the.Close ∷ m.acts u ∷ s) ts → Comes (m.arg b a ∷ s) (x ∷ ts)
arg_minused e o (co.minus_number f c) = arg_minus_number e o f c
arg_minused e o (co.minus_other g c) = sliced (chained (_, _, gr.prefix o g, c))

minus_opens : (t : Tok) → is the.Minus t ≡ true → opening_of t ≡ Some (opens.Prefix unary.Minus)
minus_opens t e = ap opening_of (symbol_is the.Minus t e)

-- an entry between its axis and what follows it
entry_of : {b : Bool} {e : Seen} {x : Axis} {t o : Placed} {s : List Item} {ts : List Placed} → OnAxis x t → Is the.Open o → Comes (m.arg b x ∷ s) ts → (us : List Placed) × Entry e x (t ∷ o ∷ ts) us × Comes s us
entry_of f o (co.arg_trim l c h z d) = (_, (λ a. (_, gr.trim f (gr.ranged o l c h z))), d)
entry_of f o (co.arg_slice g z d) = (_, (λ a. (_, gr.slice f o g z)), d)

listed : {e : Seen} {x : Axis} {s : List Item} {ts us : List Placed} → Entry e x ts us → Comes (m.entries (marks e x) ∷ s) us → (z : Placed) × (vs : List Placed) × Entries e ts (z ∷ vs) × Is the.CloseSquare z × Comes s vs
listed g (co.entries_end z c) = (_, _, (λ a. ((g a).0, gr.last_entry (g a).1)), z, c)
listed g (co.entries_on t h z c) = (_, _, (λ a. ((h (g a).0).0, gr.more_entries (g a).1 t (h (g a).0).1)), z, c)

of_size : {s : List Item} {e : Edge} {ts : List Placed} → Comes (m.bound_minus e ∷ s) ts → (n : ℕ) × Reads (Numeral n) ts (follows e (neg_ℤ (pos n)) s)
of_size (co.a_size f c) = (_, (_, _, refl, f, c))

below_bound : {s : List Item} {e : Edge} {t : Placed} {ts : List Placed} → Is the.Minus t → Comes (m.bound_minus e ∷ s) ts → Comes (m.bound e ∷ s) (t ∷ ts)
below_bound {s} {e} {t} f c =
    let n = of_size c in
    subst (λ q. Comes (m.bound e ∷ s) (t ∷ q)) (sym n.1.2) (co.a_bound (gr.below f n.1.3) n.1.4)

-- the bodies of a form
bodies_back : {S : Type 0} (k : ℕ) (h : Head) (js : List Placing) (t : Placed) (st : S) (s : List Item) (ts : List Placed) → After (bodies h js t.0 st s) ts → Comes (m.iterators k h js ∷ s) (t ∷ ts)
bodies_back k (condensing q f) js t st s ts =
    cond_both (is the.Where t.0) _ _ (λ w. After w ts → Comes (m.iterators k (condensing q f) js ∷ s) (t ∷ ts)) (λ e c. co.picks e c)
    (λ _. cond_both (is the.Using t.0) _ _ (λ w. After w ts → Comes (m.iterators k (condensing q f) js ∷ s) (t ∷ ts)) (λ e c. co.uses e c) (λ _ c. absurd c))
bodies_back k (covering q) js t st s ts =
    cond_both (is the.Values t.0) _ _ (λ w. After w ts → Comes (m.iterators k (covering q) js ∷ s) (t ∷ ts)) (λ e c. co.values e c) (λ _ c. absurd c)

returns_back : {S : Type 0} (k : ℕ) (js : List Binding) (t : Placed) (st : S) (s : List Item) (ts : List Placed) → After (when (is the.Return t.0) (returning js s) st) ts → Comes (m.bindings k js ∷ s) (t ∷ ts)
returns_back k js t st s ts = cond_both (is the.Return t.0) _ _ (λ w. After w ts → Comes (m.bindings k js ∷ s) (t ∷ ts)) (λ e c. co.returns e c) (λ _ c. absurd c)

-- an operator of a level
tail_back : (n : ℕ) (o : Binary) (t : Placed) (s : List Item) (ts : List Placed) (b : Bool) → eqb n 2 ≡ b → Joins n o t → Then (level n) ts (m.acts (join o) ∷ cond b s (m.tail n ∷ s)) → Comes (m.tail n ∷ s) (t ∷ ts)
tail_back n o t s ts true e j x = co.tail_once e j x.2 (of_did x.3)
tail_back n o t s ts false e j x = co.tail_on e j x.2 (of_did x.3)

climbed : (n : ℕ) {ts : List Placed} {s : List Item} → Comes (m.operand ∷ (ladder n 0 ++ s)) ts → Then (level (raised n 0)) ts s
climbed n c = let x = of_operand c in climb n 0 x.2 x.3

raised_is : (k n : ℕ) → raised k n ≡ n + k
raised_is zero n = omega arith
raised_is (suc k) n = raised_is k (suc n) ∙ omega arith

pub pop_back : {S : Type 0} (act : Action → S → S) (s : List Item) (st : S) (t : Tok) (p : ℕ) (ts : List Placed) → After (pops act s st t p) ts → Comes s ((t, p) ∷ ts)
pop_back act [] st t p ts c = absurd c
pop_back act (m.expr ∷ s) st t p ts c = let x = starts_back act t p st s ts c in co.an_expr x.2 x.3
pop_back act (m.operand ∷ s) st t p ts c = let x = begins_back act t p st s ts c in co.an_operand x.2 x.3
pop_back act (m.tail n ∷ s) st t p ts c =
    either_both (join_of n t) _ _ (λ w. After w ts → Comes (m.tail n ∷ s) ((t, p) ∷ ts))
    (λ o e d. tail_back n o (t, p) s ts (eqb n 2) refl e (subst (λ k. Then (level k) ts (m.acts (join o) ∷ again n s)) (raised_is n 0 ∙ omega arith) (climbed n d)))
    (λ _ d. co.tail_end (pop_back act s st t p ts d)) c
pop_back act (m.subsets ∷ s) st t p ts c =
    cond_both (is the.OpenSquare t) _ _ (λ w. After w ts → Comes (m.subsets ∷ s) ((t, p) ∷ ts))
    (λ e d. let x = of_entry d in co.subs_on e x.2 x.3 x.4)
    (λ _ d. co.subs_end (pop_back act s st t p ts d)) c
pop_back act (m.entry e ∷ s) st t p ts c =
    given_both (axis_of t) _ (λ w. After w ts → Comes (m.entry e ∷ s) ((t, p) ∷ ts))
    (λ a f d.
    let o = of_symbol d in
    let r = entry_of {e = e} {t = (t, p)} f o.3 o.4 in
    let l = listed r.1 r.2 in
    subst (λ q. Comes (m.entry e ∷ s) ((t, p) ∷ q)) (sym o.2) (co.an_entry l.2 l.3 l.4))
    (λ d. absurd d) c
pop_back act (m.entries e ∷ s) st t p ts c =
    cond_both (is the.Comma t) _ _ (λ w. After w ts → Comes (m.entries e ∷ s) ((t, p) ∷ ts))
    (λ f d. let x = of_entry d in co.entries_on f x.2 x.3 x.4)
    (λ _. cond_both (is the.CloseSquare t) _ _ (λ w. After w ts → Comes (m.entries e ∷ s) ((t, p) ∷ ts)) (λ f d. co.entries_end f d) (λ _ d. absurd d)) c
pop_back act (m.arg g a ∷ s) st t p ts c =
    either_both (number_of t) _ _ (λ w. After w ts → Comes (m.arg g a ∷ s) ((t, p) ∷ ts))
    (λ n e d. arg_number e d)
    (λ _. cond_both (is the.Minus t) _ _ (λ w. After w ts → Comes (m.arg g a ∷ s) ((t, p) ∷ ts))
    (λ e d. arg_minused e (minus_opens t e) d)
    (λ _ d. sliced (starts_back act t p st (m.must the.Close ∷ m.acts (slice g a) ∷ s) ts d))) c
pop_back act (m.arg_minus g a q ∷ s) st t p ts c =
    either_both (number_of t) _ _ (λ w. After w ts → Comes (m.arg_minus g a q ∷ s) ((t, p) ∷ ts))
    (λ n e d. co.minus_number e d)
    (λ _ d. let x = begins_back act t p st (m.acts (prefix q unary.Minus) ∷ (levels ++ s)) ts d in co.minus_other x.2 (of_did x.3)) c
pop_back act (m.arg_numeral g a v n q k ∷ s) st t p ts c =
    cond_both (is the.Colon t) _ _ (λ w. After w ts → Comes (m.arg_numeral g a v n q k ∷ s) ((t, p) ∷ ts))
    (λ e d. co.num_colon e d)
    (λ _ d. co.num_on (pop_back act s (act (leaf q (number n)) st) t p ts d)) c
pop_back act (m.bound e ∷ s) st t p ts c =
    either_both (number_of t) _ _ (λ w. After w ts → Comes (m.bound e ∷ s) ((t, p) ∷ ts))
    (λ n f d. co.a_bound (gr.above f) d)
    (λ _. cond_both (is the.Minus t) _ _ (λ w. After w ts → Comes (m.bound e ∷ s) ((t, p) ∷ ts)) (λ f d. below_bound f d) (λ _ d. absurd d)) c
pop_back act (m.bound_minus e ∷ s) st t p ts c =
    given_both (number_of t) _ (λ w. After w ts → Comes (m.bound_minus e ∷ s) ((t, p) ∷ ts)) (λ n f d. co.a_size f d) (λ d. absurd d) c
pop_back act (m.sign q ∷ s) st t p ts c =
    given_both (fold_of t) _ (λ w. After w ts → Comes (m.sign q ∷ s) ((t, p) ∷ ts)) (λ f e d. co.a_sign e d) (λ d. absurd d) c
pop_back act (m.iterator k h js ∷ s) st t p ts c =
    given_both (word_of t) _ (λ w. After w ts → Comes (m.iterator k h js ∷ s) ((t, p) ∷ ts)) (λ w e d. co.an_iterator e d) (λ d. absurd d) c
pop_back act (m.iterator_axis k h js w q ∷ s) st t p ts c =
    given_both (axis_of t) _ (λ x. After x ts → Comes (m.iterator_axis k h js w q ∷ s) ((t, p) ∷ ts)) (λ a e d. co.an_axis e d) (λ d. absurd d) c
pop_back act (m.iterators zero h js ∷ s) st t p ts c = bodies_back zero h js (t, p) st s ts c
pop_back act (m.iterators (suc k) h js ∷ s) st t p ts c =
    cond_both (is the.Comma t) _ _ (λ w. After w ts → Comes (m.iterators (suc k) h js ∷ s) ((t, p) ∷ ts)) (λ e d. co.next_iterator e d) (λ _ d. bodies_back (suc k) h js (t, p) st s ts d) c
pop_back act (m.binding k bs ∷ s) st t p ts c =
    given_both (variable_of t) _ (λ w. After w ts → Comes (m.binding k bs ∷ s) ((t, p) ∷ ts)) (λ w e d. co.a_binding e d) (λ d. absurd d) c
pop_back act (m.binding_name k bs w q ∷ s) st t p ts c =
    given_both (word_of t) _ (λ x. After x ts → Comes (m.binding_name k bs w q ∷ s) ((t, p) ∷ ts)) (λ v e d. co.a_name e d) (λ d. absurd d) c
pop_back act (m.bindings zero bs ∷ s) st t p ts c = returns_back zero bs (t, p) st s ts c
pop_back act (m.bindings (suc k) bs ∷ s) st t p ts c =
    cond_both (is the.Comma t) _ _ (λ w. After w ts → Comes (m.bindings (suc k) bs ∷ s) ((t, p) ∷ ts)) (λ e d. co.next_binding e d) (λ _ d. returns_back (suc k) bs (t, p) st s ts d) c
pop_back act (m.must x ∷ s) st t p ts c =
    cond_both (is x t) _ _ (λ w. After w ts → Comes (m.must x ∷ s) ((t, p) ∷ ts)) (λ e d. co.a_symbol e d) (λ _ d. absurd d) c
pop_back act (m.any_word ∷ s) st t p ts c =
    given_both (word_of t) _ (λ w. After w ts → Comes (m.any_word ∷ s) ((t, p) ∷ ts)) (λ w e d. co.a_word e d) (λ d. absurd d) c
pop_back act (m.acts a ∷ s) st t p ts c = co.did (pop_back act s (act a st) t p ts c)
pop_back act (m.ends bs ∷ s) st t p ts c = absurd c

-- ---- the end of the text

abbrev pub Ends : {S : Type 0} → Verdict S → Type 0
Ends (accepted bs st) = Unit {0}
Ends (refused p) = ⊥

pub finish_back : {S : Type 0} (act : Action → S → S) (s : List Item) (st : S) (p : ℕ) → Ends (finish act s st p) → Comes s []
finish_back act [] st p c = co.nothing
finish_back act (m.expr ∷ s) st p c = absurd c
finish_back act (m.operand ∷ s) st p c = absurd c
finish_back act (m.tail n ∷ s) st p c = co.tail_end (finish_back act s st p c)
finish_back act (m.subsets ∷ s) st p c = co.subs_end (finish_back act s st p c)
finish_back act (m.entry e ∷ s) st p c = absurd c
finish_back act (m.entries e ∷ s) st p c = absurd c
finish_back act (m.arg g a ∷ s) st p c = absurd c
finish_back act (m.arg_minus g a q ∷ s) st p c = absurd c
finish_back act (m.arg_numeral g a v n q k ∷ s) st p c = co.num_on (finish_back act s (act (leaf q (number n)) st) p c)
finish_back act (m.bound e ∷ s) st p c = absurd c
finish_back act (m.bound_minus e ∷ s) st p c = absurd c
finish_back act (m.sign q ∷ s) st p c = absurd c
finish_back act (m.iterator k h js ∷ s) st p c = absurd c
finish_back act (m.iterator_axis k h js w q ∷ s) st p c = absurd c
finish_back act (m.iterators k h js ∷ s) st p c = absurd c
finish_back act (m.binding k bs ∷ s) st p c = absurd c
finish_back act (m.binding_name k bs w q ∷ s) st p c = absurd c
finish_back act (m.bindings k bs ∷ s) st p c = absurd c
finish_back act (m.must x ∷ s) st p c = absurd c
finish_back act (m.any_word ∷ s) st p c = absurd c
finish_back act (m.acts a ∷ s) st p c = co.did (finish_back act s (act a st) p c)
finish_back act (m.ends bs ∷ s) st p c = co.ended

-- what the machine accepts, the stack derives
sound_step : {S : Type 0} (act : Action → S → S) (len : ℕ) (s : List Item) (x : Placed) (ts : List Placed) (w : Moved S) → (After w ts → Comes s (x ∷ ts)) → ((s' : List Item) (st' : S) → Ends (verdict act len s' st' ts) → Comes s' ts) → Ends (onward (λ s' st'. verdict act len s' st' ts) x.1 w) → Comes s (x ∷ ts)
sound_step act len s x ts stuck b rec e = absurd e
sound_step act len s x ts (moved s' st') b rec e = b (rec s' st' e)

pub sound : {S : Type 0} (act : Action → S → S) (len : ℕ) (s : List Item) (st : S) (ts : List Placed) → Ends (verdict act len s st ts) → Comes s ts
unfolding verdict
sound act len s st [] e = finish_back act s st len e
sound act len s st (x ∷ ts) e = sound_step act len s x ts (pops act s st x.0 x.1) (pop_back act s st x.0 x.1 ts) (λ s' st'. sound act len s' st' ts) e

-- ---- queries

of_ends : {bs : List Binding} {ts : List Placed} → Comes (m.ends bs ∷ []) ts → ts ≡ []
of_ends co.ended = refl

of_returns : {s : List Item} {js : List Binding} {ts : List Placed} → Comes (m.bindings 0 js ∷ s) ts → Reads (Is the.Return) ts (returning js s)
of_returns (co.returns e c) = (_, _, refl, e, c)

pub admitted : (ts : List Placed) → Comes m.query ts → Admits ts
admitted ts c =
    let f = of_symbol c in
    let b = all_bindings 3 f.4 in
    let r = of_returns b.3.1 in
    let e = of_symbol r.4 in
    let o = of_symbol e.4 in
    let x = of_expr o.4 in
    let k = of_symbol x.3 in
    let w = of_symbol k.4 in
    let z = of_symbol w.4 in
    let start : b.1 ≡ r.0 ∷ e.0 ∷ o.0 ∷ o.1 = r.2 ∙ ap (λ q. r.0 ∷ q) (e.2 ∙ ap (λ q. e.0 ∷ q) o.2) in
    let stop : x.1 ≡ k.0 ∷ w.0 ∷ z.0 ∷ [] = k.2 ∙ ap (λ q. k.0 ∷ q) (w.2 ∙ ap (λ q. w.0 ∷ q) (z.2 ∙ ap (λ q. z.0 ∷ q) (of_ends z.4))) in
    subst Admits (sym f.2) (_, _, gr.query f.3 (subst (λ q. gr.Listed Binding gr.Binds 4 b.0 f.1 q) start b.2) r.3 e.3 o.3 (subst (λ q. Gets expression x.0 o.1 q) stop x.2) k.3 w.3 z.3)
