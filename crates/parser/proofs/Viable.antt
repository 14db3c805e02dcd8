-- Where the machine refuses: what came before can be completed, and with the token at fault nothing can.
use Rattle.std.proofs.Common.{◌≡◌, ℕ, true, ◌⊎◌, List, [], ◌∷◌, ◌++◌, ℤ, sym, refl, ap, subst, inl, inr}
use Rattle.std.proofs.lemmas.Bool.{eq-eqb}
use Rattle.coverage.specs.declared.range.Range.{Range}
use Rattle.syntax.specs.Tree.{Binding}
use Rattle.lexer.specs.declared.symbol.Symbol.{Symbol}
use Rattle.lexer.specs.declared.symbol.Symbol.TheVariants as the
use Rattle.lexer.specs.Symbols.{number}
use Rattle.lexer.specs.Tokens.{word, variable, numeral, symbol}
use Rattle.lexer.specs.Toks.{Placed}
use Rattle.parser.specs.Roles.{is}
use Rattle.parser.specs.Actions.{Placing, Action, leaf}
use Rattle.parser.specs.Actions as actions
use Rattle.parser.specs.Yields.{Yield}
use Rattle.parser.specs.Machine as m
use Rattle.parser.specs.Machine.{Item, Head, condensing, covering, Use, trims, iterates, Edge, lower, upper, used, follows, iterating2, levels, returning, Moved, stuck, moved, pops, onward, finish, Verdict, accepted, refused, verdict}
use Rattle.parser.specs.Grammar as gr
use Rattle.parser.specs.Grammar.{Gets, expression, level}
use Rattle.parser.proofs.Comes as co
use Rattle.parser.proofs.Comes.{Comes}
use Rattle.parser.proofs.Back.{After, Ends, pop_back}

-- ---- each stack derives something

abbrev Filled : List Item → Type 0
Filled s = (ts : List Placed) × Comes s ts

abbrev a : Symbol → Placed
a x = (symbol x, 0)

same_self : (x : Symbol) → is x (symbol x) ≡ true
same_self x = eq-eqb (number x) (number x) refl

abbrev one : Placed
one = (numeral 0, 0)

a_one : (us : List Placed) → (y : Yield) × Gets (level 0) y (one ∷ us) us
a_one us = (_, gr.plain (gr.whole (gr.number refl)))

fill_expr : {s : List Item} → Filled s → Filled (m.expr ∷ s)
fill_expr r = (one ∷ r.0, co.an_expr (gr.chain (gr.tighter (gr.tighter (gr.tighter (gr.tighter (gr.tighter (gr.tighter (a_one r.0).1))))))) r.1)

fill_symbol : {s : List Item} (x : Symbol) → Filled s → Filled (m.must x ∷ s)
fill_symbol x r = ((symbol x, 0) ∷ r.0, co.a_symbol (same_self x) r.1)

fill_did : {s : List Item} (x : Action) → Filled s → Filled (m.acts x ∷ s)
fill_did x r = (r.0, co.did r.1)

fill_iterators : {s : List Item} (k : ℕ) (h : Head) (js : List Placing) → Filled s → Filled (m.iterators k h js ∷ s)
fill_iterators k (condensing p f) js r = let b = fill_expr (fill_did (actions.condense p f js) r) in ((symbol the.Using, 0) ∷ b.0, co.uses refl b.1)
fill_iterators k (covering p) js r = let b = fill_expr (fill_did (actions.cover p js) r) in ((symbol the.Values, 0) ∷ b.0, co.values refl b.1)

fill_used : {s : List Item} (u : Use) (r : Range) → Filled s → Filled (used u r ∷ s)
fill_used (trims g x) r f = fill_did (actions.trim g x r) f
fill_used (iterates k h js w p x) r f = fill_iterators k h _ f

fill_upper : {s : List Item} (u : Use) (v : ℤ) → Filled s → Filled (m.bound (upper u v) ∷ s)
fill_upper u v r = let z = fill_symbol the.Close (fill_used u _ r) in (one ∷ z.0, co.a_bound (gr.above refl) z.1)

fill_follows : {s : List Item} (e : Edge) (v : ℤ) → Filled s → Filled (follows e v s)
fill_follows (lower u) v r = fill_symbol the.Colon (fill_upper u v r)
fill_follows (upper u lo) v r = fill_symbol the.Close (fill_used u _ r)

fill_bound : {s : List Item} (e : Edge) → Filled s → Filled (m.bound e ∷ s)
fill_bound e r = let z = fill_follows e _ r in (one ∷ z.0, co.a_bound (gr.above refl) z.1)

abbrev x_word : Placed
x_word = (word (120 ∷ []), 0)

fill_axis : {s : List Item} (k : ℕ) (h : Head) (js : List Placing) (w : List ℕ) (q : ℕ) → Filled s → Filled (m.iterator_axis k h js w q ∷ s)
fill_axis k h js w q r = let b = fill_symbol the.Open (fill_bound (lower (iterates k h js w q _)) r) in (x_word ∷ b.0, co.an_axis refl b.1)

fill_iterator : {s : List Item} (k : ℕ) (h : Head) (js : List Placing) → Filled s → Filled (m.iterator k h js ∷ s)
fill_iterator k h js r = let b = fill_axis k h js _ 0 r in (x_word ∷ b.0, co.an_iterator refl b.1)

fill_return : {s : List Item} (k : ℕ) (bs : List Binding) → Filled (m.bindings k bs ∷ s)
fill_return k bs =
    let b = fill_symbol the.Encode (fill_symbol the.Open (fill_expr (fill_symbol the.Comma (fill_symbol the.Rows (fill_symbol the.Close ([], co.ended {bs = bs})))))) in
    ((symbol the.Return, 0) ∷ b.0, co.returns refl b.1)

fill_name : {s : List Item} (k : ℕ) (bs : List Binding) (w : List ℕ) (q : ℕ) → Filled (m.binding_name k bs w q ∷ s)
fill_name k bs w q = let b = fill_symbol the.Close (fill_return k _) in (x_word ∷ b.0, co.a_name refl b.1)

pub fills : (s : List Item) → Filled s
fills [] = ([], co.nothing)
fills (m.expr ∷ s) = fill_expr (fills s)
fills (m.operand ∷ s) = let r = fills s in (one ∷ r.0, co.an_operand (a_one r.0).1 r.1)
fills (m.tail n ∷ s) = let r = fills s in (r.0, co.tail_end r.1)
fills (m.subsets ∷ s) = let r = fills s in (r.0, co.subs_end r.1)
fills (m.entry e ∷ s) =
    let r = fills s in
    (x_word ∷ a the.Open ∷ one ∷ a the.Close ∷ a the.CloseSquare ∷ r.0, co.an_entry (λ y. (_, gr.last_entry (gr.slice refl refl (gr.chain (gr.tighter (gr.tighter (gr.tighter (gr.tighter (gr.tighter (gr.tighter (gr.plain (gr.whole (gr.number refl)))))))))) refl))) refl r.1)
fills (m.entries e ∷ s) = let r = fills s in ((symbol the.CloseSquare, 0) ∷ r.0, co.entries_end refl r.1)
fills (m.arg g x ∷ s) = let r = fills s in (one ∷ a the.Close ∷ r.0, co.arg_slice (gr.chain (gr.tighter (gr.tighter (gr.tighter (gr.tighter (gr.tighter (gr.tighter (gr.plain (gr.whole (gr.number refl)))))))))) refl r.1)
fills (m.arg_minus g x q ∷ s) = let r = fills s in (one ∷ r.0, co.minus_other (a_one r.0).1 (co.tail_end (co.tail_end (co.tail_end (co.tail_end (co.tail_end (co.tail_end r.1)))))))
fills (m.arg_numeral g x v n q k ∷ s) = let r = fills s in (r.0, co.num_on r.1)
fills (m.bound e ∷ s) = fill_bound e (fills s)
fills (m.bound_minus e ∷ s) = let b = fill_follows e _ (fills s) in (one ∷ b.0, co.a_size refl b.1)
fills (m.sign q ∷ s) = let b = fill_symbol the.Over (fill_iterator 2 (condensing q _) [] (fills s)) in ((symbol the.Plus, 0) ∷ b.0, co.a_sign refl b.1)
fills (m.iterator k h js ∷ s) = fill_iterator k h js (fills s)
fills (m.iterator_axis k h js w q ∷ s) = fill_axis k h js w q (fills s)
fills (m.iterators k h js ∷ s) = fill_iterators k h js (fills s)
fills (m.binding k bs ∷ s) = let b = fill_symbol the.In (fill_symbol the.Open (fill_name k bs (120 ∷ []) 0)) in ((variable (120 ∷ []), 0) ∷ b.0, co.a_binding refl b.1)
fills (m.binding_name k bs w q ∷ s) = fill_name k bs w q
fills (m.bindings k bs ∷ s) = fill_return k bs
fills (m.must x ∷ s) = fill_symbol x (fills s)
fills (m.any_word ∷ s) = let r = fills s in (x_word ∷ r.0, co.a_word refl r.1)
fills (m.acts x ∷ s) = fill_did x (fills s)
fills (m.ends bs ∷ s) = ([], co.ended)

-- ---- where the machine stops

abbrev pub Dead : {S : Type 0} → (Action → S → S) → ℕ → List Item → S → List Placed → Type 0
Dead act len s st b = (w : List Placed) → Ends (verdict act len s st (b ++ w)) → ⊥

pub record Halted (S : Type 0) (act : Action → S → S) (len : ℕ) (s : List Item) (st : S) (ts : List Placed) (p : ℕ) : Type 0 where
  pub before : List Placed
  pub token : Placed
  pub after : List Placed
  pub split : ts ≡ before ++ token ∷ after
  pub place : token.1 ≡ p
  pub rest : List Placed
  pub comes : Comes s (before ++ rest)
  pub dead : Dead act len s st (before ++ token ∷ [])

pub record Short (len : ℕ) (s : List Item) (ts : List Placed) (p : ℕ) : Type 0 where
  pub place : p ≡ len
  pub rest : List Placed
  pub comes : Comes s (ts ++ rest)

abbrev Halts : {S : Type 0} → ℕ → Verdict S → Type 0
Halts len (accepted bs st) = Unit {0}
Halts len (refused p) = p ≡ len

finish_halts : {S : Type 0} (act : Action → S → S) (s : List Item) (st : S) (p : ℕ) → Halts p (finish act s st p)
finish_halts act [] st p = tt
finish_halts act (m.expr ∷ s) st p = refl
finish_halts act (m.operand ∷ s) st p = refl
finish_halts act (m.tail n ∷ s) st p = finish_halts act s st p
finish_halts act (m.subsets ∷ s) st p = finish_halts act s st p
finish_halts act (m.entry e ∷ s) st p = refl
finish_halts act (m.entries e ∷ s) st p = refl
finish_halts act (m.arg g x ∷ s) st p = refl
finish_halts act (m.arg_minus g x q ∷ s) st p = refl
finish_halts act (m.arg_numeral g x v n q k ∷ s) st p = finish_halts act s (act (leaf q (actions.number n)) st) p
finish_halts act (m.bound e ∷ s) st p = refl
finish_halts act (m.bound_minus e ∷ s) st p = refl
finish_halts act (m.sign q ∷ s) st p = refl
finish_halts act (m.iterator k h js ∷ s) st p = refl
finish_halts act (m.iterator_axis k h js w q ∷ s) st p = refl
finish_halts act (m.iterators k h js ∷ s) st p = refl
finish_halts act (m.binding k bs ∷ s) st p = refl
finish_halts act (m.binding_name k bs w q ∷ s) st p = refl
finish_halts act (m.bindings k bs ∷ s) st p = refl
finish_halts act (m.must x ∷ s) st p = refl
finish_halts act (m.any_word ∷ s) st p = refl
finish_halts act (m.acts x ∷ s) st p = finish_halts act s (act x st) p
finish_halts act (m.ends bs ∷ s) st p = tt

same_place : {S : Type 0} (p q : ℕ) → ◌≡◌ {A = Verdict S} (refused p) (refused q) → p ≡ q
same_place p q e = cc

abbrev pub Stops : {S : Type 0} → (Action → S → S) → ℕ → List Item → S → List Placed → ℕ → Type 0
Stops {S} act len s st ts p = Halted S act len s st ts p ⊎ Short len s ts p

on_step : {S : Type 0} (act : Action → S → S) (len : ℕ) (s : List Item) (st : S) (x : Placed) (w : Moved S) (ts : List Placed) → pops act s st x.0 x.1 ≡ w → verdict act len s st (x ∷ ts) ≡ onward (λ s' st'. verdict act len s' st' ts) x.1 w
unfolding verdict
on_step act len s st x w ts e = ap (onward (λ s' st'. verdict act len s' st' ts) x.1) e

later : {S : Type 0} (act : Action → S → S) (len : ℕ) (s : List Item) (st : S) (x : Placed) (s' : List Item) (st' : S) (ts : List Placed) (p : ℕ) → pops act s st x.0 x.1 ≡ moved s' st' → Stops act len s' st' ts p → Stops act len s st (x ∷ ts) p
later act len s st x s' st' ts p e (inl h) = inl (record {
  before = x ∷ h.before;
  token = h.token;
  after = h.after;
  split = ap (λ l. x ∷ l) h.split;
  place = h.place;
  rest = h.rest;
  comes = pop_back act s st x.0 x.1 (h.before ++ h.rest) (subst (λ w. After w (h.before ++ h.rest)) (sym e) h.comes);
  dead = λ w f. h.dead w (subst Ends (on_step act len s st x (moved s' st') ((h.before ++ h.token ∷ []) ++ w) e) f);
})
later act len s st x s' st' ts p e (inr h) = inr (record {
  place = h.place;
  rest = h.rest;
  comes = pop_back act s st x.0 x.1 (ts ++ h.rest) (subst (λ w. After w (ts ++ h.rest)) (sym e) h.comes);
})

stop_step : {S : Type 0} (act : Action → S → S) (len : ℕ) (s : List Item) (st : S) (x : Placed) (ts : List Placed) (p : ℕ) (w : Moved S) → pops act s st x.0 x.1 ≡ w → ((s' : List Item) (st' : S) → verdict act len s' st' ts ≡ refused p → Stops act len s' st' ts p) → onward (λ s' st'. verdict act len s' st' ts) x.1 w ≡ refused p → Stops act len s st (x ∷ ts) p
stop_step act len s st x ts p stuck e rec r = inl (record {
  before = [];
  token = x;
  after = ts;
  split = refl;
  place = same_place x.1 p r;
  rest = (fills s).0;
  comes = (fills s).1;
  dead = λ w f. subst Ends (on_step act len s st x stuck w e) f;
})
stop_step act len s st x ts p (moved s' st') e rec r = later act len s st x s' st' ts p e (rec s' st' r)

pub stops : {S : Type 0} (act : Action → S → S) (len : ℕ) (s : List Item) (st : S) (ts : List Placed) (p : ℕ) → verdict act len s st ts ≡ refused p → Stops act len s st ts p
unfolding verdict
stops act len s st [] p r = inr (record { place = subst (Halts len) r (finish_halts act s st len); rest = (fills s).0; comes = (fills s).1 })
stops act len s st (x ∷ ts) p r = stop_step act len s st x ts p (pops act s st x.0 x.1) refl (λ s' st'. stops act len s' st' ts p) r
