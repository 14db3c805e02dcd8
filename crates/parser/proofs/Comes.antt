-- What a stack derives.
use Rattle.std.proofs.Common.{◌≡◌, ℕ, zero, suc, Bool, true, false, eqb, ◌⊎◌, List, [], ◌∷◌, ◌++◌, drop, ℤ, pos, neg_ℤ, sym, refl, ap, ◌∙◌, subst, inl, inr}
use Rattle.coverage.specs.declared.axis.Axis.{Axis}
use Rattle.syntax.specs.Tree.{Word, Binding}
use Rattle.syntax.specs.declared.Unary.TheVariants as unary
use Rattle.syntax.specs.declared.Binary.{Binary}
use Rattle.syntax.specs.declared.Fold.{Fold}
use Rattle.std.proofs.lemmas.Bool.{false≢true, eqb-true}
use Rattle.lexer.specs.declared.symbol.Symbol.{Symbol}
use Rattle.lexer.specs.declared.symbol.Symbol.TheVariants as the
use Rattle.lexer.specs.Toks.{Placed}
use Rattle.parser.specs.Axes.{Seen, none_seen}
use Rattle.parser.specs.Actions.{Placing, Action, prefix, bound, pick, condense, cover, placing, spanning}
use Rattle.parser.specs.Yields.{Yield, joined}
use Rattle.parser.specs.Machine as m
use Rattle.parser.specs.Machine.{Item, Head, Edge, condensing, covering, lower, upper, iterates, trims, levels, again, ladder, follows, iterating2, returning}
use Rattle.parser.specs.Grammar as gr
use Rattle.parser.specs.Grammar.{Is, Numeral, Worded, Variable, OnAxis, Sign, Joins, Limit, Sort, Gets, expression, level, subset, primary}

-- entries, whatever they are applied to
abbrev pub Entries : Seen → List Placed → List Placed → Type 0
Entries e ts us = (a : Yield) → (b : Yield) × Gets (gr.entries e a) b ts us

abbrev pub Entry : Seen → Axis → List Placed → List Placed → Type 0
Entry e x ts us = (a : Yield) → (b : Yield) × Gets (gr.entry e a x) b ts us

pub data Comes : List Item → List Placed → Type 0 where
  nothing : Comes [] []
  ended : {s : List Item} {bs : List Binding} → Comes (m.ends bs ∷ s) []
  an_expr : {s : List Item} {y : Yield} {ts us : List Placed} → Gets expression y ts us → Comes s us → Comes (m.expr ∷ s) ts
  an_operand : {s : List Item} {y : Yield} {ts us : List Placed} → Gets (level 0) y ts us → Comes s us → Comes (m.operand ∷ s) ts
  tail_end : {s : List Item} {n : ℕ} {ts : List Placed} → Comes s ts → Comes (m.tail n ∷ s) ts
  tail_on : {s : List Item} {n : ℕ} {o : Binary} {y : Yield} {t : Placed} {ts us : List Placed} → eqb n 2 ≡ false → Joins n o t → Gets (level n) y ts us → Comes (m.tail n ∷ s) us → Comes (m.tail n ∷ s) (t ∷ ts)
  tail_once : {s : List Item} {n : ℕ} {o : Binary} {y : Yield} {t : Placed} {ts us : List Placed} → eqb n 2 ≡ true → Joins n o t → Gets (level n) y ts us → Comes s us → Comes (m.tail n ∷ s) (t ∷ ts)
  subs_end : {s : List Item} {ts : List Placed} → Comes s ts → Comes (m.subsets ∷ s) ts
  subs_on : {s : List Item} {t z : Placed} {ts us : List Placed} → Is the.OpenSquare t → Entries none_seen ts (z ∷ us) → Is the.CloseSquare z → Comes (m.subsets ∷ s) us → Comes (m.subsets ∷ s) (t ∷ ts)
  an_entry : {s : List Item} {e : Seen} {z : Placed} {ts us : List Placed} → Entries e ts (z ∷ us) → Is the.CloseSquare z → Comes s us → Comes (m.entry e ∷ s) ts
  entries_end : {s : List Item} {e : Seen} {z : Placed} {ts : List Placed} → Is the.CloseSquare z → Comes s ts → Comes (m.entries e ∷ s) (z ∷ ts)
  entries_on : {s : List Item} {e : Seen} {t z : Placed} {ts us : List Placed} → Is the.Comma t → Entries e ts (z ∷ us) → Is the.CloseSquare z → Comes s us → Comes (m.entries e ∷ s) (t ∷ ts)
  arg_trim : {s : List Item} {b : Bool} {a : Axis} {lo hi : ℤ} {l z : Placed} {ts us vs : List Placed} → Limit lo ts (l ∷ us) → Is the.Colon l → Limit hi us (z ∷ vs) → Is the.Close z → Comes s vs → Comes (m.arg b a ∷ s) ts
  arg_slice : {s : List Item} {b : Bool} {a : Axis} {y : Yield} {z : Placed} {ts us : List Placed} → Gets expression y ts (z ∷ us) → Is the.Close z → Comes s us → Comes (m.arg b a ∷ s) ts
  minus_number : {s : List Item} {b : Bool} {a : Axis} {q p n : ℕ} {t : Placed} {ts : List Placed} → Numeral n t → Comes (m.arg_numeral b a (neg_ℤ (pos n)) n p 10 ∷ m.subsets ∷ m.acts (prefix q unary.Minus) ∷ (levels ++ s)) ts → Comes (m.arg_minus b a q ∷ s) (t ∷ ts)
  minus_other : {s : List Item} {b : Bool} {a : Axis} {q : ℕ} {y : Yield} {ts us : List Placed} → Gets (level 0) y ts us → Comes (levels ++ s) us → Comes (m.arg_minus b a q ∷ s) ts
  num_on : {s : List Item} {b : Bool} {a : Axis} {v : ℤ} {n q k : ℕ} {ts : List Placed} → Comes s ts → Comes (m.arg_numeral b a v n q k ∷ s) ts
  num_colon : {s : List Item} {b : Bool} {a : Axis} {v : ℤ} {n q k : ℕ} {t : Placed} {ts : List Placed} → Is the.Colon t → Comes (m.bound (upper (trims b a) v) ∷ drop k s) ts → Comes (m.arg_numeral b a v n q k ∷ s) (t ∷ ts)
  a_bound : {s : List Item} {e : Edge} {v : ℤ} {ts us : List Placed} → Limit v ts us → Comes (follows e v s) us → Comes (m.bound e ∷ s) ts
  a_size : {s : List Item} {e : Edge} {n : ℕ} {t : Placed} {ts : List Placed} → Numeral n t → Comes (follows e (neg_ℤ (pos n)) s) ts → Comes (m.bound_minus e ∷ s) (t ∷ ts)
  a_sign : {s : List Item} {q : ℕ} {f : Fold} {t : Placed} {ts : List Placed} → Sign f t → Comes (iterating2 (condensing q f) s) ts → Comes (m.sign q ∷ s) (t ∷ ts)
  an_iterator : {s : List Item} {k : ℕ} {h : Head} {js : List Placing} {w : Word} {t : Placed} {ts : List Placed} → Worded w t → Comes (m.iterator_axis k h js w t.1 ∷ s) ts → Comes (m.iterator k h js ∷ s) (t ∷ ts)
  an_axis : {s : List Item} {k : ℕ} {h : Head} {js : List Placing} {w : Word} {q : ℕ} {a : Axis} {t : Placed} {ts : List Placed} → OnAxis a t → Comes (m.must the.Open ∷ m.bound (lower (iterates k h js w q a)) ∷ s) ts → Comes (m.iterator_axis k h js w q ∷ s) (t ∷ ts)
  next_iterator : {s : List Item} {k : ℕ} {h : Head} {js : List Placing} {t : Placed} {ts : List Placed} → Is the.Comma t → Comes (m.iterator k h js ∷ s) ts → Comes (m.iterators (suc k) h js ∷ s) (t ∷ ts)
  picks : {s : List Item} {k p : ℕ} {f : Fold} {js : List Placing} {t : Placed} {ts : List Placed} → Is the.Where t → Comes (m.expr ∷ m.must the.Using ∷ m.expr ∷ m.acts (pick p f js) ∷ s) ts → Comes (m.iterators k (condensing p f) js ∷ s) (t ∷ ts)
  uses : {s : List Item} {k p : ℕ} {f : Fold} {js : List Placing} {t : Placed} {ts : List Placed} → Is the.Using t → Comes (m.expr ∷ m.acts (condense p f js) ∷ s) ts → Comes (m.iterators k (condensing p f) js ∷ s) (t ∷ ts)
  values : {s : List Item} {k p : ℕ} {js : List Placing} {t : Placed} {ts : List Placed} → Is the.Values t → Comes (m.expr ∷ m.acts (cover p js) ∷ s) ts → Comes (m.iterators k (covering p) js ∷ s) (t ∷ ts)
  a_binding : {s : List Item} {k : ℕ} {js : List Binding} {w : Word} {t : Placed} {ts : List Placed} → Variable w t → Comes (m.must the.In ∷ m.must the.Open ∷ m.binding_name k js w t.1 ∷ s) ts → Comes (m.binding k js ∷ s) (t ∷ ts)
  a_name : {s : List Item} {k : ℕ} {js : List Binding} {w v : Word} {q : ℕ} {t : Placed} {ts : List Placed} → Worded v t → Comes (m.must the.Close ∷ m.bindings k (js ++ (bound w q v t.1 ∷ [])) ∷ s) ts → Comes (m.binding_name k js w q ∷ s) (t ∷ ts)
  next_binding : {s : List Item} {k : ℕ} {js : List Binding} {t : Placed} {ts : List Placed} → Is the.Comma t → Comes (m.binding k js ∷ s) ts → Comes (m.bindings (suc k) js ∷ s) (t ∷ ts)
  returns : {s : List Item} {k : ℕ} {js : List Binding} {t : Placed} {ts : List Placed} → Is the.Return t → Comes (returning js s) ts → Comes (m.bindings k js ∷ s) (t ∷ ts)
  a_symbol : {s : List Item} {x : Symbol} {t : Placed} {ts : List Placed} → Is x t → Comes s ts → Comes (m.must x ∷ s) (t ∷ ts)
  a_word : {s : List Item} {w : Word} {t : Placed} {ts : List Placed} → Worded w t → Comes s ts → Comes (m.any_word ∷ s) (t ∷ ts)
  did : {s : List Item} {a : Action} {ts : List Placed} → Comes s ts → Comes (m.acts a ∷ s) ts

-- an x that begins at ts, and what s derives after it
abbrev pub Then : Sort → List Placed → List Item → Type 0
Then x ts s = (y : Yield) × (us : List Placed) × Gets x y ts us × Comes s us

-- ---- inversions

pub of_expr : {s : List Item} {ts : List Placed} → Comes (m.expr ∷ s) ts → Then expression ts s
of_expr (an_expr g c) = (_, _, g, c)

pub of_operand : {s : List Item} {ts : List Placed} → Comes (m.operand ∷ s) ts → Then (level 0) ts s
of_operand (an_operand g c) = (_, _, g, c)

pub of_did : {s : List Item} {a : Action} {ts : List Placed} → Comes (m.acts a ∷ s) ts → Comes s ts
of_did (did c) = c

-- a token that is read, and what comes after it
abbrev pub Reads : (Placed → Type 0) → List Placed → List Item → Type 0
Reads P ts s = (z : Placed) × (us : List Placed) × (ts ≡ z ∷ us) × P z × Comes s us

pub of_symbol : {s : List Item} {x : Symbol} {ts : List Placed} → Comes (m.must x ∷ s) ts → Reads (Is x) ts s
of_symbol (a_symbol e c) = (_, _, refl, e, c)

pub of_word : {s : List Item} {ts : List Placed} → Comes (m.any_word ∷ s) ts → (w : Word) × Reads (Worded w) ts s
of_word (a_word e c) = (_, (_, _, refl, e, c))

pub of_bound : {s : List Item} {e : Edge} {ts : List Placed} → Comes (m.bound e ∷ s) ts → (v : ℤ) × (us : List Placed) × Limit v ts us × Comes (follows e v s) us
of_bound (a_bound l c) = (_, _, l, c)

pub of_sign : {s : List Item} {q : ℕ} {ts : List Placed} → Comes (m.sign q ∷ s) ts → (f : Fold) × Reads (Sign f) ts (iterating2 (condensing q f) s)
of_sign (a_sign e c) = (_, (_, _, refl, e, c))

pub of_entry : {s : List Item} {e : Seen} {ts : List Placed} → Comes (m.entry e ∷ s) ts → (z : Placed) × (us : List Placed) × Entries e ts (z ∷ us) × Is the.CloseSquare z × Comes s us
of_entry (an_entry g z c) = (_, _, g, z, c)

-- ---- the tails take what was read further

pub subs : {s : List Item} {y : Yield} {ts us : List Placed} → Gets subset y ts us → Comes (m.subsets ∷ s) us → Then subset ts s
subs g (subs_end c) = (_, _, g, c)
subs {y = y} g (subs_on t e z c) = subs (gr.bracket g t (e y).1 z) c

-- ---- levels

compares_at : {n : ℕ} {o : Binary} {a b : Yield} {t : Placed} {ts us vs : List Placed} → n ≡ 2 → Gets (level n) a ts (t ∷ us) → Joins n o t → Gets (level n) b us vs → Gets (level (suc n)) (joined o a b) ts vs
compares_at {o = o} {a} {b} {t} {ts} {us} {vs} e = subst (λ m. Gets (level m) a ts (t ∷ us) → Joins m o t → Gets (level m) b us vs → Gets (level (suc m)) (joined o a b) ts vs) (sym e) gr.compares

-- more operators of a level
tails : {s : List Item} {n : ℕ} {y : Yield} {ts us : List Placed} → eqb n 2 ≡ false → Gets (level (suc n)) y ts us → Comes (m.tail n ∷ s) us → Then (level (suc n)) ts s
tails e g (tail_end c) = (_, _, g, c)
tails e g (tail_on q j h c) = tails e (gr.joins e g j h) c
tails e g (tail_once q j h c) = absurd (false≢true (sym e ∙ q))

-- a level after the tighter one
pub one_tail : {s : List Item} {n : ℕ} {y : Yield} {ts us : List Placed} → Gets (level n) y ts us → Comes (m.tail n ∷ s) us → Then (level (suc n)) ts s
one_tail g (tail_end c) = (_, _, gr.tighter g, c)
one_tail g (tail_on e j h c) = tails e (gr.joins e (gr.tighter g) j h) c
one_tail {n = n} g (tail_once e j h c) = (_, _, compares_at (eqb-true n 2 e) g j h, c)

-- the level after k levels from n on
abbrev pub raised : ℕ → ℕ → ℕ
raised zero n = n
raised (suc k) n = raised k (suc n)

pub climb : {s : List Item} (k n : ℕ) {y : Yield} {ts us : List Placed} → Gets (level n) y ts us → Comes (ladder k n ++ s) us → Then (level (raised k n)) ts s
climb zero n g c = (_, _, g, c)
climb (suc k) n g c = let r = one_tail g c in climb k (suc n) r.2 r.3

-- an operand with all levels after it
pub chained : {ts : List Placed} {s : List Item} → Then (level 0) ts (levels ++ s) → Then expression ts s
chained x = let r = climb 6 0 x.2 x.3 in (r.0, r.1, gr.chain r.2, r.3)

-- ---- iterators and bindings

abbrev OneIterator : List Placed → ℕ → Head → List Item → Type 0
OneIterator ts k h s = (x : Placing) × (us : List Placed) × gr.Iterates x ts us × ((js : List Placing) × Comes (m.iterators k h js ∷ s) us)

-- from an iterator's range on
from_range : {s : List Item} {k : ℕ} {h : Head} {js : List Placing} {w : Word} {a : Axis} {t x : Placed} {ts : List Placed} → Worded w t → OnAxis a x → Comes (m.must the.Open ∷ m.bound (lower (iterates k h js w t.1 a)) ∷ s) ts → OneIterator (t ∷ x ∷ ts) k h s
from_range {k = k} {h = h} {w = w} {a = a} {t = t} {x = x} {ts = ts} e f c =
    let o = of_symbol c in
    let lo = of_bound o.4 in
    let l = of_symbol lo.3 in
    let hi = of_bound l.4 in
    let z = of_symbol hi.3 in
    let r : gr.Ranged (spanning lo.0 hi.0) (o.0 ∷ o.1) z.1 = gr.ranged o.3 (subst (λ q. Limit lo.0 o.1 q) l.2 lo.2) l.3 (subst (λ q. Limit hi.0 l.1 q) z.2 hi.2) z.3 in
    (placing w t.1 a (spanning lo.0 hi.0), z.1, gr.iterates e f (subst (λ q. gr.Ranged (spanning lo.0 hi.0) q z.1) (sym o.2) r), (_, z.4))

of_axis : {s : List Item} {k : ℕ} {h : Head} {js : List Placing} {w : Word} {t : Placed} {ts : List Placed} → Worded w t → Comes (m.iterator_axis k h js w t.1 ∷ s) ts → OneIterator (t ∷ ts) k h s
of_axis e (an_axis f c) = from_range e f c

one_iterator : {s : List Item} {k : ℕ} {h : Head} {js : List Placing} {ts : List Placed} → Comes (m.iterator k h js ∷ s) ts → OneIterator ts k h s
one_iterator (an_iterator e c) = of_axis e c

-- after an iterator: the bodies of the form, or a comma
settled : {s : List Item} {k : ℕ} {h : Head} {js : List Placing} {ts : List Placed} → Comes (m.iterators (suc k) h js ∷ s) ts → Comes (m.iterators 0 h js ∷ s) ts ⊎ Reads (Is the.Comma) ts (m.iterator k h js ∷ s)
settled (next_iterator e c) = inr (_, _, refl, e, c)
settled (picks e c) = inl (picks e c)
settled (uses e c) = inl (uses e c)
settled (values e c) = inl (values e c)

abbrev pub AllIterators : List Placed → ℕ → Head → List Item → Type 0
AllIterators ts k h s = (xs : List Placing) × (us : List Placed) × gr.Listed Placing gr.Iterates (suc k) xs ts us × ((js : List Placing) × Comes (m.iterators 0 h js ∷ s) us)

more_iterators : {s : List Item} {k : ℕ} {h : Head} {js : List Placing} {x : Placing} {ts us : List Placed} → gr.Iterates x ts us → ((vs : List Placed) → Comes (m.iterator k h js ∷ s) vs → AllIterators vs k h s) → Comes (m.iterators 0 h js ∷ s) us ⊎ Reads (Is the.Comma) us (m.iterator k h js ∷ s) → AllIterators ts (suc k) h s
more_iterators {js = js} {x = x} {us = us} i rec (inl c) = (x ∷ [], us, gr.one i, (js, c))
more_iterators {x = x} {ts = ts} i rec (inr r) =
    let q = rec r.1 r.4 in
    (x ∷ q.0, q.1, gr.more (subst (λ l. gr.Iterates x ts l) r.2 i) r.3 q.2, q.3)

pub all_iterators : {s : List Item} (k : ℕ) {h : Head} {js : List Placing} {ts : List Placed} → Comes (m.iterator k h js ∷ s) ts → AllIterators ts k h s
all_iterators zero c = let x = one_iterator c in (x.0 ∷ [], x.1, gr.one x.2, x.3)
all_iterators (suc k) c = let x = one_iterator c in more_iterators x.2 (λ vs d. all_iterators k d) (settled x.3.1)

abbrev OneBinding : List Placed → ℕ → List Item → Type 0
OneBinding ts k s = (x : Binding) × (us : List Placed) × gr.Binds x ts us × ((js : List Binding) × Comes (m.bindings k js ∷ s) us)

of_name : {s : List Item} {k : ℕ} {js : List Binding} {w : Word} {q : ℕ} {ts : List Placed} → Comes (m.binding_name k js w q ∷ s) ts → (v : Word) × (z : Placed) × (us : List Placed) × (ts ≡ z ∷ us) × Worded v z × ((ks : List Binding) × Comes (m.must the.Close ∷ m.bindings k ks ∷ s) us)
of_name (a_name e c) = (_, _, _, refl, e, (_, c))

one_binding : {s : List Item} {k : ℕ} {js : List Binding} {ts : List Placed} → Comes (m.binding k js ∷ s) ts → OneBinding ts k s
one_binding (a_binding {w = w} {t = t} {ts = ts} e c) =
    let i = of_symbol c in
    let o = of_symbol i.4 in
    let n = of_name o.4 in
    let z = of_symbol n.5.1 in
    let whole : ts ≡ i.0 ∷ o.0 ∷ n.1 ∷ z.0 ∷ z.1 = i.2 ∙ ap (λ q. i.0 ∷ q) (o.2 ∙ ap (λ q. o.0 ∷ q) (n.3 ∙ ap (λ q. n.1 ∷ q) z.2)) in
    (bound w t.1 n.0 n.1.1, z.1, subst (λ q. gr.Binds (bound w t.1 n.0 n.1.1) (t ∷ q) z.1) (sym whole) (gr.binds e i.3 o.3 n.4 z.3), (_, z.4))

-- after a binding: `return`, or a comma
bound_all : {s : List Item} {k : ℕ} {js : List Binding} {ts : List Placed} → Comes (m.bindings (suc k) js ∷ s) ts → Comes (m.bindings 0 js ∷ s) ts ⊎ Reads (Is the.Comma) ts (m.binding k js ∷ s)
bound_all (next_binding e c) = inr (_, _, refl, e, c)
bound_all (returns e c) = inl (returns e c)

abbrev pub AllBindings : List Placed → ℕ → List Item → Type 0
AllBindings ts k s = (xs : List Binding) × (us : List Placed) × gr.Listed Binding gr.Binds (suc k) xs ts us × ((js : List Binding) × Comes (m.bindings 0 js ∷ s) us)

more_bindings : {s : List Item} {k : ℕ} {js : List Binding} {x : Binding} {ts us : List Placed} → gr.Binds x ts us → ((vs : List Placed) → Comes (m.binding k js ∷ s) vs → AllBindings vs k s) → Comes (m.bindings 0 js ∷ s) us ⊎ Reads (Is the.Comma) us (m.binding k js ∷ s) → AllBindings ts (suc k) s
more_bindings {js = js} {x = x} {us = us} i rec (inl c) = (x ∷ [], us, gr.one i, (js, c))
more_bindings {x = x} {ts = ts} i rec (inr r) =
    let q = rec r.1 r.4 in
    (x ∷ q.0, q.1, gr.more (subst (λ l. gr.Binds x ts l) r.2 i) r.3 q.2, q.3)

pub all_bindings : {s : List Item} (k : ℕ) {js : List Binding} {ts : List Placed} → Comes (m.binding k js ∷ s) ts → AllBindings ts k s
all_bindings zero c = let x = one_binding c in (x.0 ∷ [], x.1, gr.one x.2, x.3)
all_bindings (suc k) c = let x = one_binding c in more_bindings x.2 (λ vs d. all_bindings k d) (bound_all x.3.1)

-- ---- forms

-- after the iterators of a condense form
condense_bodies : {s : List Item} {p : ℕ} {f : Fold} {js : List Placing} {c g o : Placed} {xs : List Placing} {ts us : List Placed} → Is the.Condense c → Sign f g → Is the.Over o → gr.Listed Placing gr.Iterates 3 xs ts us → Comes (m.iterators 0 (condensing p f) js ∷ s) us → Then expression (c ∷ g ∷ o ∷ ts) s
condense_bodies a b d l (picks {ts = ns} w e) =
    let x = of_expr e in
    let u = of_symbol x.3 in
    let y = of_expr u.4 in
    (_, _, gr.condense_where a b d l w (subst (λ q. Gets expression x.0 ns q) u.2 x.2) u.3 y.2, of_did y.3)
condense_bodies a b d l (uses w e) = let x = of_expr e in (_, _, gr.condense a b d l w x.2, of_did x.3)

coverage_body : {s : List Item} {p : ℕ} {n : Word} {js : List Placing} {c w o : Placed} {xs : List Placing} {ts us : List Placed} → Is the.Coverage c → Worded n w → Is the.Over o → gr.Listed Placing gr.Iterates 3 xs ts us → Comes (m.iterators 0 (covering p) js ∷ s) us → Then expression (c ∷ w ∷ o ∷ ts) s
coverage_body a b d l (values v e) = let x = of_expr e in (_, _, gr.coverage a b d l v x.2, of_did x.3)

pub condenses : {s : List Item} {p : ℕ} {t : Placed} {ts : List Placed} → Is the.Condense t → Comes (m.sign p ∷ s) ts → Then expression (t ∷ ts) s
condenses {s} {p} {t} {ts} e c =
    let f = of_sign c in
    let o = of_symbol f.1.4 in
    let i = all_iterators 2 o.4 in
    let whole : ts ≡ f.1.0 ∷ o.0 ∷ o.1 = f.1.2 ∙ ap (λ q. f.1.0 ∷ q) o.2 in
    subst (λ q. Then expression (t ∷ q) s) (sym whole) (condense_bodies e f.1.3 o.3 i.2 i.3.1)

pub covers : {s : List Item} {p : ℕ} {t : Placed} {ts : List Placed} → Is the.Coverage t → Comes (m.any_word ∷ iterating2 (covering p) s) ts → Then expression (t ∷ ts) s
covers {s} {p} {t} {ts} e c =
    let f = of_word c in
    let o = of_symbol f.1.4 in
    let i = all_iterators 2 o.4 in
    let whole : ts ≡ f.1.0 ∷ o.0 ∷ o.1 = f.1.2 ∙ ap (λ q. f.1.0 ∷ q) o.2 in
    subst (λ q. Then expression (t ∷ q) s) (sym whole) (coverage_body e f.1.3 o.3 i.2 i.3.1)
