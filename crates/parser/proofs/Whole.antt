-- What the grammar derives, the machine accepts, with the very yield of the derivation.
use Rattle.std.proofs.Common.{◌≡◌, ℕ, zero, suc, ◌+◌, Bool, true, false, cond, eqb, List, [], ◌∷◌, ◌++◌, drop, ℤ, pos, neg_ℤ, Some, None, Option, sym, refl, ap, ◌∙◌, subst, append_assoc, arith}
use Rattle.std.proofs.lemmas.Bool.{true≢false}
use Rattle.std.proofs.lemmas.Option.{none-some}
use Rattle.coverage.specs.declared.axis.Axis.{Axis}
use Rattle.coverage.specs.declared.range.Range.{Range}
use Rattle.syntax.specs.Tree.{Binding, Query}
use Rattle.syntax.specs.declared.Binary.{Binary}
use Rattle.syntax.specs.declared.Unary.TheVariants as unary
use Rattle.lexer.specs.declared.symbol.Symbol.{Symbol}
use Rattle.lexer.specs.declared.symbol.Symbol.TheVariants as the
use Rattle.lexer.specs.Tokens.{Tok, word, variable, numeral, symbol, bad, end}
use Rattle.lexer.specs.Toks.{Placed}
use Rattle.parser.specs.declared.roles.Opening.{Opening}
use Rattle.parser.specs.declared.roles.Opening.TheVariants as opens
use Rattle.parser.specs.Axes.{Seen, none_seen, holds, marks}
use Rattle.parser.specs.Roles.{is, opening_of, number_of, word_of, variable_of}
use Rattle.parser.specs.Actions.{Placing, Action, placing, join, slice, leaf, number, prefix}
use Rattle.parser.specs.Actions as actions
use Rattle.parser.specs.Yields.{Yield, mean, joined}
use Rattle.parser.specs.Machine as m
use Rattle.parser.specs.Machine.{Item, Head, condensing, covering, Use, iterates, trims, Edge, lower, upper, used, follows, ladder, levels, again, Moved, stuck, moved, pops, begins, opened, starts, given, either, when, onward, finish, Verdict, accepted, refused, verdict, returning}
use Rattle.parser.specs.Grammar as gr
use Rattle.parser.specs.Grammar.{Is, Numeral, Worded, Variable, OnAxis, Sign, Joins, Opens, Limit, Ranged, Iterates, Binds, Listed, Sort, Gets, expression, level, subset, primary}
use Rattle.parser.proofs.See.{done, symbol_is, number_is}
use Rattle.parser.proofs.Commas.{past_iterators, past_bindings}
use Rattle.parser.proofs.Tokens.{Free, free_symbol, free_joins, free_less, off, word_is, variable_is, two_symbols}
use Rattle.parser.proofs.Colons.{first, colon_left, minus_left}

-- the machine over yields
abbrev pub V : ℕ → List Item → List Yield → List Placed → Verdict (List Yield)
V len s ys ts = verdict mean len s ys ts

-- ---- one token

step : (len : ℕ) (s : List Item) (ys : List Yield) (t : Placed) (ts : List Placed) (u : Tok) → t.0 ≡ u → V len s ys (t ∷ ts) ≡ onward (λ a b. V len a b ts) t.1 (pops mean s ys u t.1)
unfolding verdict
step len s ys t ts u e = ap (λ x. onward (λ a b. V len a b ts) t.1 (pops mean s ys x t.1)) e

-- a symbol
sym_step : (len : ℕ) (s : List Item) (ys : List Yield) (t : Placed) (ts : List Placed) (x : Symbol) → Is x t → V len s ys (t ∷ ts) ≡ onward (λ a b. V len a b ts) t.1 (pops mean s ys (symbol x) t.1)
sym_step len s ys t ts x e = step len s ys t ts (symbol x) (symbol_is x t.0 e)

num_step : (len : ℕ) (s : List Item) (ys : List Yield) (t : Placed) (ts : List Placed) (n : ℕ) → Numeral n t → V len s ys (t ∷ ts) ≡ onward (λ a b. V len a b ts) t.1 (pops mean s ys (numeral n) t.1)
num_step len s ys t ts n e = step len s ys t ts (numeral n) (number_is t.0 n e)

-- a token on which the stack moves
moves : (len : ℕ) (s : List Item) (ys : List Yield) (t : Placed) (ts : List Placed) (s' : List Item) (ys' : List Yield) → pops mean s ys t.0 t.1 ≡ moved s' ys' → V len s ys (t ∷ ts) ≡ V len s' ys' ts
unfolding verdict
moves len s ys t ts s' ys' e = ap (onward (λ a b. V len a b ts) t.1) e

-- stacks that do the same on what comes
same : (len : ℕ) (s : List Item) (ys : List Yield) (s' : List Item) (ys' : List Yield) (ts : List Placed) → ((q : ℕ) → finish mean s ys q ≡ finish mean s' ys' q) → ((t : Placed) (us : List Placed) → ts ≡ t ∷ us → pops mean s ys t.0 t.1 ≡ pops mean s' ys' t.0 t.1) → V len s ys ts ≡ V len s' ys' ts
unfolding verdict
same len s ys s' ys' [] f g = f len
same len s ys s' ys' (t ∷ ts) f g = ap (onward (λ a b. V len a b ts) t.1) (g t ts refl)

free_at : (n : ℕ) (t : Placed) (us ts : List Placed) → ts ≡ t ∷ us → Free n ts → Free n (t ∷ us)
free_at n t us ts e f = subst (Free n) e f

no_tail : (len n : ℕ) (s : List Item) (ys : List Yield) (ts : List Placed) → Free (suc n) ts → V len (m.tail n ∷ s) ys ts ≡ V len s ys ts
no_tail len n s ys ts f = same len _ ys s ys ts (λ _. refl) (λ t us e i. either ((free_at (suc n) t us ts e f).1 n (omega arith) i) (λ o. moved (m.operand ∷ (ladder n 0 ++ (m.acts (join o) ∷ again n s))) ys) (pops mean s ys t.0 t.1))

no_subsets : (len : ℕ) (s : List Item) (ys : List Yield) (ts : List Placed) → Free 0 ts → V len (m.subsets ∷ s) ys ts ≡ V len s ys ts
no_subsets len s ys ts f = same len _ ys s ys ts (λ _. refl) (λ t us e i. cond ((free_at 0 t us ts e f).0 i) (moved (m.entry none_seen ∷ m.subsets ∷ s) ys) (pops mean s ys t.0 t.1))

ladder_from : (k n : ℕ) (s : List Item) → ladder (suc k) n ++ s ≡ ladder k n ++ (m.tail (n + k) ∷ s)
ladder_from zero n s = let e : n ≡ n + 0 = omega arith in ap (λ j. m.tail j ∷ s) e
ladder_from (suc k) n s = let e : suc n + k ≡ n + suc k = omega arith in ap (λ l. m.tail n ∷ l) (ladder_from k (suc n) s ∙ ap (λ j. ladder k (suc n) ++ (m.tail j ∷ s)) e)

ladder_last : (n : ℕ) (s : List Item) → ladder (suc n) 0 ++ s ≡ ladder n 0 ++ (m.tail n ∷ s)
ladder_last n s = let e : 0 + n ≡ n = omega arith in ladder_from n 0 s ∙ ap (λ j. ladder n 0 ++ (m.tail j ∷ s)) e

-- ---- ranges, iterators, bindings

reach_limit : {v : ℤ} {ts us : List Placed} → Limit v ts us → (len : ℕ) (e : Edge) (s : List Item) (ys : List Yield) → V len (m.bound e ∷ s) ys ts ≡ V len (follows e v s) ys us
reach_limit (gr.above {n = n} {t = t} o) len e s ys = num_step len _ ys t _ n o
reach_limit (gr.below {n = n} {m = k} {t = t} i o) len e s ys = sym_step len _ ys k _ the.Minus i ∙ num_step len _ ys t _ n o

-- what is due once a range's use is known
reach_range : {r : Range} {ts us : List Placed} → Ranged r ts us → (len : ℕ) (u : Use) (s : List Item) (ys : List Yield) → V len (m.must the.Open ∷ m.bound (lower u) ∷ s) ys ts ≡ V len (used u r ∷ s) ys us
reach_range (gr.ranged {o = o} {c = c} {z = z} a l b h d) len u s ys =
    sym_step len _ ys o _ the.Open a ∙ reach_limit l len (lower u) s ys ∙ sym_step len _ ys c _ the.Colon b ∙ reach_limit h len _ s ys ∙ sym_step len _ ys z _ the.Close d

reach_iterator : {x : Placing} {ts us : List Placed} → Iterates x ts us → (len k : ℕ) (h : Head) (js : List Placing) (s : List Item) (ys : List Yield) → V len (m.iterator k h js ∷ s) ys ts ≡ V len (m.iterators k h (js ++ (x ∷ [])) ∷ s) ys us
reach_iterator (gr.iterates {w = w} {a = a} {t = t} {x = x} e f g) len k h js s ys =
    step len _ ys t _ (word w) (word_is t.0 w e)
    ∙ moves len _ ys x _ (m.must the.Open ∷ m.bound (lower (iterates k h js w t.1 a)) ∷ s) ys (ap (λ o. given o (λ b. moved (m.must the.Open ∷ m.bound (lower (iterates k h js w t.1 b)) ∷ s) ys)) f)
    ∙ reach_range g len (iterates k h js w t.1 a) s ys

abbrev NoComma : List Placed → Type 0
NoComma [] = Unit {0}
NoComma (t ∷ ts) = is the.Comma t.0 ≡ false

settle : (len k : ℕ) (h : Head) (js : List Placing) (s : List Item) (ys : List Yield) (us : List Placed) → NoComma us → V len (m.iterators k h js ∷ s) ys us ≡ V len (m.iterators 0 h js ∷ s) ys us
settle len k h js s ys us n = same len _ ys _ ys us (λ _. refl) (λ t vs e. past_iterators mean k h js s ys t.0 t.1 (subst NoComma e n))

settle_bindings : (len k : ℕ) (js : List Binding) (s : List Item) (ys : List Yield) (us : List Placed) → NoComma us → V len (m.bindings k js ∷ s) ys us ≡ V len (m.bindings 0 js ∷ s) ys us
settle_bindings len k js s ys us n = same len _ ys _ ys us (λ _. refl) (λ t vs e. past_bindings mean k js s ys t.0 t.1 (subst NoComma e n))

abbrev ListGoal : ℕ → List Placing → List Placed → List Placed → Type 0
ListGoal zero xs ts us = Unit {0}
ListGoal (suc k) xs ts us = NoComma us → (len : ℕ) (h : Head) (js : List Placing) (s : List Item) (ys : List Yield) → V len (m.iterator k h js ∷ s) ys ts ≡ V len (m.iterators 0 h (js ++ xs) ∷ s) ys us

positive : {A : Type 0} {One : A → List Placed → List Placed → Type 0} {n : ℕ} {xs : List A} {ts us : List Placed} → Listed A One n xs ts us → (k : ℕ) × (n ≡ suc k)
positive (gr.one {n = n} i) = (n, refl)
positive (gr.more {n = n} i c l) = (n, refl)

more_list : (n : ℕ) {x : Placing} {c : Placed} (xs : List Placing) {ts us : List Placed} (vs : List Placed) → (k : ℕ) × (n ≡ suc k) → Iterates x ts (c ∷ us) → Is the.Comma c → ListGoal n xs us vs → ListGoal (suc n) (x ∷ xs) ts vs
more_list zero xs vs p i c g = absurd (omega (arith, p.1))
more_list (suc n) {x} {c} xs vs p i e g = λ q len h js s ys.
    reach_iterator i len (suc n) h js s ys ∙ sym_step len _ ys c _ the.Comma e ∙ g q len h (js ++ (x ∷ [])) s ys
    ∙ ap (λ l. V len (m.iterators 0 h l ∷ s) ys vs) (append_assoc js (x ∷ []) xs)

reach_list : {n : ℕ} {xs : List Placing} {ts us : List Placed} → Listed Placing Iterates n xs ts us → ListGoal n xs ts us
reach_list (gr.one {n = n} {us = us} i) = λ q len h js s ys. reach_iterator i len n h js s ys ∙ settle len n h _ s ys us q
reach_list (gr.more {n = n} {rest = rest} {vs = vs} i c l) = more_list n rest vs (positive l) i c (reach_list l)

reach_binding : {x : Binding} {ts us : List Placed} → Binds x ts us → (len k : ℕ) (js : List Binding) (s : List Item) (ys : List Yield) → V len (m.binding k js ∷ s) ys ts ≡ V len (m.bindings k (js ++ (x ∷ [])) ∷ s) ys us
reach_binding (gr.binds {w = w} {v = v} {t = t} {i = i} {o = o} {n = n} {z = z} a b c d e) len k js s ys =
    step len _ ys t _ (variable w) (variable_is t.0 w a) ∙ sym_step len _ ys i _ the.In b ∙ sym_step len _ ys o _ the.Open c ∙ step len _ ys n _ (word v) (word_is n.0 v d) ∙ sym_step len _ ys z _ the.Close e

abbrev BindGoal : ℕ → List Binding → List Placed → List Placed → Type 0
BindGoal zero xs ts us = Unit {0}
BindGoal (suc k) xs ts us = NoComma us → (len : ℕ) (js : List Binding) (s : List Item) (ys : List Yield) → V len (m.binding k js ∷ s) ys ts ≡ V len (m.bindings 0 (js ++ xs) ∷ s) ys us

more_bindings : (n : ℕ) {x : Binding} {c : Placed} (xs : List Binding) {ts us : List Placed} (vs : List Placed) → (k : ℕ) × (n ≡ suc k) → Binds x ts (c ∷ us) → Is the.Comma c → BindGoal n xs us vs → BindGoal (suc n) (x ∷ xs) ts vs
more_bindings zero xs vs p i c g = absurd (omega (arith, p.1))
more_bindings (suc n) {x} {c} xs vs p i e g = λ q len js s ys.
    reach_binding i len (suc n) js s ys ∙ sym_step len _ ys c _ the.Comma e ∙ g q len (js ++ (x ∷ [])) s ys
    ∙ ap (λ l. V len (m.bindings 0 l ∷ s) ys vs) (append_assoc js (x ∷ []) xs)

pub reach_bindings : {n : ℕ} {xs : List Binding} {ts us : List Placed} → Listed Binding Binds n xs ts us → BindGoal n xs ts us
reach_bindings (gr.one {n = n} {us = us} i) = λ q len js s ys. reach_binding i len n js s ys ∙ settle_bindings len n _ s ys us q
reach_bindings (gr.more {n = n} {rest = rest} {vs = vs} i c l) = more_bindings n rest vs (positive l) i c (reach_bindings l)

-- ---- operands

begins_as : (t : Tok) (p : ℕ) (ys : List Yield) (s : List Item) (o : Opening) → opening_of t ≡ Some o → begins mean t p ys s ≡ opened mean o p ys s
begins_as (word w) p ys s o e = absurd (none-some o e)
begins_as (variable w) p ys s o e = absurd (none-some o e)
begins_as (numeral k) p ys s o e = absurd (none-some o e)
begins_as (symbol x) p ys s o e = ap (λ z. given z (λ o. opened mean o p ys s)) e
begins_as bad p ys s o e = absurd (none-some o e)
begins_as end p ys s o e = absurd (none-some o e)

opening_step : (len : ℕ) (s : List Item) (ys : List Yield) (t : Placed) (ts : List Placed) (o : Opening) → Opens o t → V len (m.operand ∷ s) ys (t ∷ ts) ≡ onward (λ a b. V len a b ts) t.1 (opened mean o t.1 ys s)
unfolding verdict
opening_step len s ys t ts o e = ap (onward (λ a b. V len a b ts) t.1) (begins_as t.0 t.1 ys s o e)

-- a chain does not begin with a form's word
abbrev NoForm : List Placed → Type 0
NoForm [] = Unit {0}
NoForm (t ∷ ts) = (is the.Condense t.0 ≡ false) × (is the.Coverage t.0 ≡ false)

abbrev Starts : Sort → List Placed → Type 0
Starts expression ts = Unit {0}
Starts (level n) ts = NoForm ts
Starts subset ts = NoForm ts
Starts primary ts = NoForm ts
Starts (gr.entries e a) ts = Unit {0}
Starts (gr.entry e a x) ts = Unit {0}

no_opening : (o : Opening) (t : Placed) → Opens o t → (is the.Condense t.0 ≡ false) × (is the.Coverage t.0 ≡ false)
no_opening o t e = (off opening_of the.Condense t.0 o e refl, off opening_of the.Coverage t.0 o e refl)

starting : {x : Sort} {y : Yield} {ts us : List Placed} → Gets x y ts us → Starts x ts
starting (gr.chain g) = tt
starting (gr.condense a1 a2 a3 a4 a5 a6) = tt
starting (gr.condense_where a1 a2 a3 a4 a5 a6 a7 a8) = tt
starting (gr.coverage a1 a2 a3 a4 a5 a6) = tt
starting (gr.tighter g) = starting g
starting (gr.joins q g o h) = starting g
starting (gr.compares g o h) = starting g
starting (gr.prefix {t = t} o g) = no_opening _ t o
starting (gr.plain g) = starting g
starting (gr.whole g) = starting g
starting (gr.bracket g o h z) = starting g
starting (gr.number {n = n} {t = t} o) = (off number_of the.Condense t.0 n o refl, off number_of the.Coverage t.0 n o refl)
starting (gr.truth {b = b} {t = t} o) = no_opening _ t o
starting (gr.name {w = w} {t = t} o) = (off variable_of the.Condense t.0 w o refl, off variable_of the.Coverage t.0 w o refl)
starting (gr.iterator {w = w} {t = t} o) = (off word_of the.Condense t.0 w o refl, off word_of the.Coverage t.0 w o refl)
starting (gr.round {t = t} o g z) = no_opening _ t o
starting (gr.function {t = t} o p g z) = no_opening _ t o
starting (gr.last_entry g) = tt
starting (gr.more_entries g o h) = tt
starting (gr.trim o g) = tt
starting (gr.slice o p g z) = tt

no_form : (len : ℕ) (s : List Item) (ys : List Yield) (ts : List Placed) → NoForm ts → V len (m.expr ∷ s) ys ts ≡ V len (m.operand ∷ (levels ++ s)) ys ts
no_form len s ys ts n = same len _ ys _ ys ts (λ _. refl) (λ t us e i. cond ((subst NoForm e n).0 i) (moved (m.sign t.1 ∷ s) ys) (cond ((subst NoForm e n).1 i) (moved (m.any_word ∷ m.iterating2 (covering t.1) s) ys) (begins mean t.0 t.1 ys (levels ++ s))))

-- ---- what an entry has in its round brackets

-- what is due if it is a position
abbrev Position : Bool → Axis → List Item → List Item
Position g a s = m.must the.Close ∷ m.acts (slice g a) ∷ s

abbrev NoColon : List Placed → Type 0
NoColon [] = Unit {0}
NoColon (t ∷ ts) = is the.Colon t.0 ≡ false

number_skip : (len : ℕ) (g : Bool) (a : Axis) (v : ℤ) (n q k : ℕ) (s : List Item) (ys : List Yield) (ts : List Placed) → NoColon ts → V len (m.arg_numeral g a v n q k ∷ s) ys ts ≡ V len s (mean (leaf q (number n)) ys) ts
number_skip len g a v n q k s ys ts f = same len _ ys s _ ts (λ _. refl) (λ t us e i. cond (subst NoColon e f i) (moved (m.bound (upper (trims g a) v) ∷ drop k s) ys) (pops mean s (mean (leaf q (number n)) ys) t.0 t.1))

-- a numeral is not followed by a colon; the same after a minus
abbrev Plain : List Placed → Type 0
Plain ts = (n : ℕ) (t : Placed) (us : List Placed) → ts ≡ t ∷ us → Numeral n t → NoColon us

minus_go : (len : ℕ) (g : Bool) (a : Axis) (q : ℕ) (s : List Item) (ys : List Yield) (t : Placed) (us : List Placed) → Plain (t ∷ us) → (o : Option ℕ) → number_of t.0 ≡ o → V len (m.arg_minus g a q ∷ s) ys (t ∷ us) ≡ V len (m.operand ∷ m.acts (prefix q unary.Minus) ∷ (levels ++ s)) ys (t ∷ us)
minus_go len g a q s ys t us f (Some n) e =
    num_step len _ ys t us n e ∙ number_skip len g a (neg_ℤ (pos n)) n t.1 10 _ ys us (f n t us refl e) ∙ sym (num_step len _ ys t us n e)
minus_go len g a q s ys t us f None e = same len _ ys _ ys (t ∷ us) (λ _. refl) (λ x vs h i.
    either ((ap (λ (z : Placed). number_of z.0) (sym (first _ _ _ _ h)) ∙ e) i) (λ n. moved (m.arg_numeral g a (neg_ℤ (pos n)) n x.1 10 ∷ m.subsets ∷ m.acts (prefix q unary.Minus) ∷ (levels ++ s)) ys) (begins mean x.0 x.1 ys (m.acts (prefix q unary.Minus) ∷ (levels ++ s))))

minus_skip : (len : ℕ) (g : Bool) (a : Axis) (q : ℕ) (s : List Item) (ys : List Yield) (ts : List Placed) → Plain ts → V len (m.arg_minus g a q ∷ s) ys ts ≡ V len (m.operand ∷ m.acts (prefix q unary.Minus) ∷ (levels ++ s)) ys ts
unfolding verdict
minus_skip len g a q s ys [] f = refl
minus_skip len g a q s ys (t ∷ us) f = minus_go len g a q s ys t us f (number_of t.0) refl

abbrev NoTrim : List Placed → Type 0
NoTrim ts = Plain ts × ((t : Placed) (us : List Placed) → ts ≡ t ∷ us → Is the.Minus t → Plain us)

arg_go : (len : ℕ) (g : Bool) (a : Axis) (s : List Item) (ys : List Yield) (t : Placed) (us : List Placed) → NoTrim (t ∷ us) → (o : Option ℕ) (b : Bool) → number_of t.0 ≡ o → is the.Minus t.0 ≡ b → V len (m.arg g a ∷ s) ys (t ∷ us) ≡ V len (m.expr ∷ Position g a s) ys (t ∷ us)
arg_go len g a s ys t us f (Some n) b e h =
    num_step len _ ys t us n e ∙ number_skip len g a (pos n) n t.1 9 _ ys us (f.0 n t us refl e) ∙ sym (num_step len _ ys t us n e)
arg_go len g a s ys t us f None true e h =
    sym_step len _ ys t us the.Minus h ∙ minus_skip len g a t.1 (Position g a s) ys us (f.1 t us refl h) ∙ sym (sym_step len _ ys t us the.Minus h)
arg_go len g a s ys t us f None false e h = same len _ ys _ ys (t ∷ us) (λ _. refl) (λ x vs k i.
    either ((ap (λ (z : Placed). number_of z.0) (sym (first _ _ _ _ k)) ∙ e) i) (λ n. moved (m.arg_numeral g a (pos n) n x.1 9 ∷ m.subsets ∷ (levels ++ Position g a s)) ys)
    (cond ((ap (λ (z : Placed). is the.Minus z.0) (sym (first _ _ _ _ k)) ∙ h) i) (moved (m.arg_minus g a x.1 ∷ Position g a s) ys) (starts mean x.0 x.1 ys (Position g a s))))

arg_skip : (len : ℕ) (g : Bool) (a : Axis) (s : List Item) (ys : List Yield) (ts : List Placed) → NoTrim ts → V len (m.arg g a ∷ s) ys ts ≡ V len (m.expr ∷ Position g a s) ys ts
unfolding verdict
arg_skip len g a s ys [] f = refl
arg_skip len g a s ys (t ∷ us) f = arg_go len g a s ys t us f (number_of t.0) (is the.Minus t.0) refl refl

not-true : (b : Bool) → (b ≡ true → ⊥) → b ≡ false
not-true true h = absurd (h refl)
not-true false h = refl

no_colon : (us : List Placed) → ((c : Placed) (r : List Placed) → us ≡ c ∷ r → Is the.Colon c → ⊥) → NoColon us
no_colon [] h = tt
no_colon (c ∷ r) h = not-true (is the.Colon c.0) (h c r refl)

close_colon : (z c : Placed) → z ≡ c → Is the.Close z → Is the.Colon c → ⊥
close_colon z c e i j = true≢false (sym (subst (Is the.Colon) (sym e) j) ∙ two_symbols the.Close the.Colon z.0 refl i)

-- an expression that a closing bracket ends is no range
no_trim : {y : Yield} {ts us : List Placed} {z : Placed} → Gets expression y ts (z ∷ us) → Is the.Close z → NoTrim ts
no_trim {z = z} g e = (
  λ n t vs h i. no_colon vs (λ c r k j. close_colon z c (first _ _ _ _ (colon_left g n t c r (h ∙ ap (λ l. t ∷ l) k) i j)) e j),
  λ u vs h i n t ws k o. no_colon ws (λ c r l j. close_colon z c (first _ _ _ _ (minus_left g u n t c r (h ∙ ap (λ q. u ∷ q) (k ∙ ap (λ q. t ∷ q) l)) i o j)) e j),
)

-- a range
arg_range : {r : Range} {ts us : List Placed} → Ranged r ts us → (len : ℕ) (g : Bool) (a : Axis) (s : List Item) (ys : List Yield) → V len (m.must the.Open ∷ m.arg g a ∷ s) ys ts ≡ V len (m.acts (actions.trim g a r) ∷ s) ys us
arg_range (gr.ranged {o = o} {c = c} {z = z} p (gr.above {n = n} {t = t} l) b h d) len g a s ys =
    sym_step len _ ys o _ the.Open p ∙ num_step len _ ys t _ n l ∙ sym_step len _ ys c _ the.Colon b ∙ reach_limit h len _ s ys ∙ sym_step len _ ys z _ the.Close d
arg_range (gr.ranged {o = o} {c = c} {z = z} p (gr.below {n = n} {m = k} {t = t} i l) b h d) len g a s ys =
    sym_step len _ ys o _ the.Open p ∙ sym_step len _ ys k _ the.Minus i ∙ num_step len _ ys t _ n l ∙ sym_step len _ ys c _ the.Colon b ∙ reach_limit h len _ s ys ∙ sym_step len _ ys z _ the.Close d

-- ---- expressions

abbrev pub LevelGoal : ℕ → Yield → List Placed → List Placed → Type 0
LevelGoal zero y ts us = Free 0 us → (len : ℕ) (s : List Item) (ys : List Yield) → V len (m.operand ∷ s) ys ts ≡ V len s (y ∷ ys) us
LevelGoal (suc n) y ts us =
    (eqb n 2 ≡ false → Free n us → (len : ℕ) (s : List Item) (ys : List Yield) → V len (m.operand ∷ (ladder n 0 ++ (m.tail n ∷ s))) ys ts ≡ V len (m.tail n ∷ s) (y ∷ ys) us)
    × (Free (suc n) us → (len : ℕ) (s : List Item) (ys : List Yield) → V len (m.operand ∷ (ladder n 0 ++ (m.tail n ∷ s))) ys ts ≡ V len s (y ∷ ys) us)

abbrev pub Goal : Sort → Yield → List Placed → List Placed → Type 0
Goal expression y ts us = Free 6 us → (len : ℕ) (s : List Item) (ys : List Yield) → V len (m.expr ∷ s) ys ts ≡ V len s (y ∷ ys) us
Goal (level n) y ts us = LevelGoal n y ts us
Goal subset y ts us = (len : ℕ) (s : List Item) (ys : List Yield) → V len (m.operand ∷ s) ys ts ≡ V len (m.subsets ∷ s) (y ∷ ys) us
Goal primary y ts us = (len : ℕ) (s : List Item) (ys : List Yield) → V len (m.operand ∷ s) ys ts ≡ V len (m.subsets ∷ s) (y ∷ ys) us
Goal (gr.entries e a) b ts us = (f : Seen) × ((len : ℕ) (s : List Item) (ys : List Yield) → V len (m.entry e ∷ s) (a ∷ ys) ts ≡ V len (m.entries f ∷ s) (b ∷ ys) us)
Goal (gr.entry e a x) b ts us = (len : ℕ) (s : List Item) (ys : List Yield) → V len (m.entry e ∷ s) (a ∷ ys) ts ≡ V len (m.entries (marks e x) ∷ s) (b ∷ ys) us

-- a whole level
mainly : (n : ℕ) (y : Yield) (ts us : List Placed) → LevelGoal n y ts us → Free n us → (len : ℕ) (s : List Item) (ys : List Yield) → V len (m.operand ∷ (ladder n 0 ++ s)) ys ts ≡ V len s (y ∷ ys) us
mainly zero y ts us g f len s ys = g f len s ys
mainly (suc n) y ts us g f len s ys = ap (λ l. V len (m.operand ∷ l) ys ts) (ladder_last n s) ∙ g.1 f len s ys

-- an operator of level n, and its right operand
joining : (n : ℕ) (o : Binary) (a b : Yield) (t : Placed) (us vs : List Placed) → Joins n o t → LevelGoal n b us vs → Free n vs → (len : ℕ) (s : List Item) (ys : List Yield) → V len (m.tail n ∷ s) (a ∷ ys) (t ∷ us) ≡ V len (again n s) (joined o a b ∷ ys) vs
joining n o a b t us vs j h f len s ys =
    moves len _ (a ∷ ys) t us (m.operand ∷ (ladder n 0 ++ (m.acts (join o) ∷ again n s))) (a ∷ ys) (ap (λ x. either x (λ p. moved (m.operand ∷ (ladder n 0 ++ (m.acts (join p) ∷ again n s))) (a ∷ ys)) (pops mean s (a ∷ ys) t.0 t.1)) j)
    ∙ mainly n b us vs h f len (m.acts (join o) ∷ again n s) (a ∷ ys)
    ∙ done mean len (join o) (again n s) (b ∷ a ∷ ys) vs

again_other : (n : ℕ) (s : List Item) → eqb n 2 ≡ false → again n s ≡ m.tail n ∷ s
again_other n s e = λ i. cond (e i) s (m.tail n ∷ s)

joined_left : (n : ℕ) (o : Binary) (a b : Yield) (t : Placed) (ts us vs : List Placed) → eqb n 2 ≡ false → LevelGoal (suc n) a ts (t ∷ us) → Joins n o t → LevelGoal n b us vs → Free n vs → (len : ℕ) (s : List Item) (ys : List Yield) → V len (m.operand ∷ (ladder n 0 ++ (m.tail n ∷ s))) ys ts ≡ V len (m.tail n ∷ s) (joined o a b ∷ ys) vs
joined_left n o a b t ts us vs q g j h f len s ys =
    g.0 q (free_joins n o t us j) len s ys ∙ joining n o a b t us vs j h f len s ys ∙ ap (λ l. V len l (joined o a b ∷ ys) vs) (again_other n s q)

pub reach : {x : Sort} {y : Yield} {ts us : List Placed} → Gets x y ts us → Goal x y ts us
reach (gr.chain {y = y} {ts = ts} {us = us} g) = λ f len s ys. no_form len s ys ts (starting g) ∙ mainly 6 y ts us (reach g) f len s ys
reach (gr.condense {f = f} {is = xs} {b = b} {c = c} {g = g} {o = o} {u = u} {vs = vs} a1 a2 a3 a4 a5 a6) = λ q len s ys.
    sym_step len _ ys c _ the.Condense a1
    ∙ moves len _ ys g _ (m.must the.Over ∷ m.iterator 2 (condensing c.1 f) [] ∷ s) ys (ap (λ x. given x (λ k. moved (m.must the.Over ∷ m.iterator 2 (condensing c.1 k) [] ∷ s) ys)) a2)
    ∙ sym_step len _ ys o _ the.Over a3
    ∙ reach_list a4 (two_symbols the.Using the.Comma u.0 refl a5) len (condensing c.1 f) [] s ys
    ∙ sym_step len _ ys u _ the.Using a5
    ∙ reach a6 q len (m.acts (actions.condense c.1 f xs) ∷ s) ys
    ∙ done mean len (actions.condense c.1 f xs) s (b ∷ ys) vs
reach (gr.condense_where {f = f} {is = xs} {a = a} {b = b} {c = c} {g = g} {o = o} {w = w} {u = u} {vs = vs} {ws = ws} a1 a2 a3 a4 a5 a6 a7 a8) = λ q len s ys.
    sym_step len _ ys c _ the.Condense a1
    ∙ moves len _ ys g _ (m.must the.Over ∷ m.iterator 2 (condensing c.1 f) [] ∷ s) ys (ap (λ x. given x (λ k. moved (m.must the.Over ∷ m.iterator 2 (condensing c.1 k) [] ∷ s) ys)) a2)
    ∙ sym_step len _ ys o _ the.Over a3
    ∙ reach_list a4 (two_symbols the.Where the.Comma w.0 refl a5) len (condensing c.1 f) [] s ys
    ∙ sym_step len _ ys w _ the.Where a5
    ∙ reach a6 (free_symbol 6 the.Using u vs refl refl a7) len (m.must the.Using ∷ m.expr ∷ m.acts (actions.pick c.1 f xs) ∷ s) ys
    ∙ sym_step len _ (a ∷ ys) u _ the.Using a7
    ∙ reach a8 q len (m.acts (actions.pick c.1 f xs) ∷ s) (a ∷ ys)
    ∙ done mean len (actions.pick c.1 f xs) s (b ∷ a ∷ ys) ws
reach (gr.coverage {n = n} {is = xs} {b = b} {c = c} {w = w} {o = o} {v = v} {vs = vs} a1 a2 a3 a4 a5 a6) = λ q len s ys.
    sym_step len _ ys c _ the.Coverage a1
    ∙ step len _ ys w _ (word n) (word_is w.0 n a2)
    ∙ sym_step len _ ys o _ the.Over a3
    ∙ reach_list a4 (two_symbols the.Values the.Comma v.0 refl a5) len (covering c.1) [] s ys
    ∙ sym_step len _ ys v _ the.Values a5
    ∙ reach a6 q len (m.acts (actions.cover c.1 xs) ∷ s) ys
    ∙ done mean len (actions.cover c.1 xs) s (b ∷ ys) vs
reach (gr.tighter {n = n} {y = y} {ts = ts} {us = us} g) = (
  λ q f len s ys. mainly n y ts us (reach g) f len (m.tail n ∷ s) ys,
  λ f len s ys. mainly n y ts us (reach g) (free_less n us f) len (m.tail n ∷ s) ys ∙ no_tail len n s (y ∷ ys) us f,
)
reach (gr.joins {n = n} {o = o} {a = a} {b = b} {t = t} {ts = ts} {us = us} {vs = vs} q g j h) = (
  λ _ f len s ys. joined_left n o a b t ts us vs q (reach g) j (reach h) f len s ys,
  λ f len s ys. joined_left n o a b t ts us vs q (reach g) j (reach h) (free_less n vs f) len s ys ∙ no_tail len n s _ vs f,
)
reach (gr.compares {o = o} {a = a} {b = b} {t = t} {ts = ts} {us = us} {vs = vs} g j h) = (
  λ q. absurd (true≢false q),
  λ f len s ys. mainly 2 a ts (t ∷ us) (reach g) (free_joins 2 o t us j) len (m.tail 2 ∷ s) ys ∙ joining 2 o a b t us vs j (reach h) (free_less 2 vs f) len s ys,
)
reach (gr.prefix {u = u} {y = y} {t = t} {ts = ts} {us = us} o g) = λ f len s ys.
    opening_step len s ys t ts (opens.Prefix u) o ∙ reach g f len (m.acts (prefix t.1 u) ∷ s) ys ∙ done mean len (prefix t.1 u) s (y ∷ ys) us
reach (gr.plain {y = y} {us = us} g) = λ f len s ys. reach g len s ys ∙ no_subsets len s (y ∷ ys) us f
reach (gr.whole g) = reach g
reach (gr.bracket {a = a} {b = b} {t = t} {z = z} {us = us} {vs = vs} g o h e) = λ len s ys.
    let r = reach h in
    reach g len s ys ∙ sym_step len _ (a ∷ ys) t us the.OpenSquare o ∙ r.1 len (m.subsets ∷ s) ys ∙ sym_step len _ (b ∷ ys) z vs the.CloseSquare e
reach (gr.number {n = n} {t = t} {us = us} o) = λ len s ys. num_step len _ ys t us n o
reach (gr.truth {b = b} {t = t} {us = us} o) = λ len s ys. opening_step len s ys t us (opens.Truth b) o
reach (gr.name {w = w} {t = t} {us = us} o) = λ len s ys. step len _ ys t us (variable w) (variable_is t.0 w o)
reach (gr.iterator {w = w} {t = t} {us = us} o) = λ len s ys. step len _ ys t us (word w) (word_is t.0 w o)
reach (gr.round {y = y} {t = t} {z = z} {ts = ts} {us = us} o g e) = λ len s ys.
    opening_step len s ys t ts opens.Round o ∙ reach g (free_symbol 6 the.Close z us refl refl e) len (m.must the.Close ∷ m.acts (actions.wrap t.1) ∷ m.subsets ∷ s) ys ∙ sym_step len _ (y ∷ ys) z us the.Close e ∙ done mean len (actions.wrap t.1) _ (y ∷ ys) us
reach (gr.function {f = f} {y = y} {t = t} {o = p} {z = z} {ts = ts} {us = us} o q g e) = λ len s ys.
    opening_step len s ys t _ (opens.Function f) o ∙ sym_step len _ ys p ts the.Open q ∙ reach g (free_symbol 6 the.Close z us refl refl e) len (m.must the.Close ∷ m.acts (actions.apply t.1 f) ∷ m.subsets ∷ s) ys ∙ sym_step len _ (y ∷ ys) z us the.Close e ∙ done mean len (actions.apply t.1 f) _ (y ∷ ys) us
reach (gr.last_entry {s = e} {x = x} g) = (marks e x, λ len s ys. reach g len s ys)
reach (gr.more_entries {b = b} {c = c} {us = us} g o h) =
    let r = reach h in
    (r.0, λ len s ys. reach g len s ys ∙ sym_step len _ (b ∷ ys) c us the.Comma o ∙ r.1 len s ys)
reach (gr.trim {s = e} {a = a} {x = x} {r = r} {t = t} {ts = ts} {us = us} o g) = λ len s ys.
    moves len _ (a ∷ ys) t ts (m.must the.Open ∷ m.arg (holds e x) x ∷ m.entries (marks e x) ∷ s) (a ∷ ys) (ap (λ z. given z (λ k. moved (m.must the.Open ∷ m.arg (holds e k) k ∷ m.entries (marks e k) ∷ s) (a ∷ ys))) o)
    ∙ arg_range g len (holds e x) x (m.entries (marks e x) ∷ s) (a ∷ ys) ∙ done mean len (actions.trim (holds e x) x r) _ (a ∷ ys) us
reach (gr.slice {s = e} {a = a} {b = b} {x = x} {t = t} {o = p} {z = z} {ts = ts} {us = us} o q g h) = λ len s ys.
    moves len _ (a ∷ ys) t (p ∷ ts) (m.must the.Open ∷ m.arg (holds e x) x ∷ m.entries (marks e x) ∷ s) (a ∷ ys) (ap (λ z. given z (λ k. moved (m.must the.Open ∷ m.arg (holds e k) k ∷ m.entries (marks e k) ∷ s) (a ∷ ys))) o)
    ∙ sym_step len _ (a ∷ ys) p ts the.Open q
    ∙ arg_skip len (holds e x) x (m.entries (marks e x) ∷ s) (a ∷ ys) ts (no_trim g h)
    ∙ reach g (free_symbol 6 the.Close z us refl refl h) len (Position (holds e x) x (m.entries (marks e x) ∷ s)) (a ∷ ys)
    ∙ sym_step len _ (b ∷ a ∷ ys) z us the.Close h
    ∙ done mean len (slice (holds e x) x) _ (b ∷ a ∷ ys) us

-- ---- queries

ended : (len : ℕ) (bs : List Binding) (ys : List Yield) → V len (m.ends bs ∷ []) ys [] ≡ accepted bs ys
unfolding verdict
ended len bs ys = refl

-- a query's verdict has its bindings, and the yield of its expression
pub record Reached (q : Query) (d len : ℕ) (ts : List Placed) : Type 0 where
  pub yield : Yield
  pub body : q.body ≡ yield.tree
  pub deep : d ≡ yield.inner + 1
  pub verdict : V len m.query [] ts ≡ accepted q.bindings (yield ∷ [])

pub reach_query : {q : Query} {d : ℕ} {ts : List Placed} → gr.Derives q d ts → (len : ℕ) → Reached q d len ts
reach_query (gr.query {bs = bs} {y = y} {f = f} {r = r} {e = e} {o = o} {c = c} {w = w} {z = z} a1 a2 a3 a4 a5 g a6 a7 a8) len = record {
  yield = y;
  body = refl;
  deep = refl;
  verdict =
      sym_step len _ [] f _ the.For a1
      ∙ reach_bindings a2 (two_symbols the.Return the.Comma r.0 refl a3) len [] [] []
      ∙ sym_step len _ [] r _ the.Return a3 ∙ sym_step len _ [] e _ the.Encode a4 ∙ sym_step len _ [] o _ the.Open a5
      ∙ reach g (free_symbol 6 the.Comma c (w ∷ z ∷ []) refl refl a6) len (m.must the.Comma ∷ m.must the.Rows ∷ m.must the.Close ∷ m.ends bs ∷ []) []
      ∙ sym_step len _ (y ∷ []) c _ the.Comma a6 ∙ sym_step len _ (y ∷ []) w _ the.Rows a7 ∙ sym_step len _ (y ∷ []) z _ the.Close a8
      ∙ ended len bs (y ∷ []);
}
