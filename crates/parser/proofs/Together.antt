-- A text read into a table of nodes and read into trees: after every token the table is what was read.
use Rattle.std.proofs.Common.{◌≡◌, ℕ, zero, suc, ◌+◌, ◌≤◌, Bool, true, false, cond, List, [], ◌∷◌, ◌++◌, length, pos, neg_ℤ, Some, None, Option, refl, ap, subst, arith, length-append}
use Rattle.std.proofs.ByRecursion.{All-push}
use Rattle.syntax.specs.Tree.{Word, Binding}
use Rattle.syntax.specs.declared.Unary.TheVariants as unary
use Rattle.lexer.specs.declared.symbol.Symbol.TheVariants as the
use Rattle.lexer.specs.Tokens.{Tok, word, variable, numeral, symbol, bad, end}
use Rattle.lexer.specs.Toks.{Placed, toks}
use Rattle.lexer.proofs.Spelt.{Spelt, AllSpelt, toks_spelt}
use Rattle.parser.specs.declared.roles.Opening.{Opening}
use Rattle.parser.specs.declared.roles.Opening.TheVariants as opens
use Rattle.parser.specs.Axes.{axis_of}
use Rattle.parser.specs.Roles.{is, opening, fold_of, join_of, number_of, word_of, variable_of}
use Rattle.parser.specs.declared.node.Node.{Node}
use Rattle.parser.specs.Actions.{Placing, Action, leaf, number, truth, named, iterating, prefix, slice, bound, St, state, build}
use Rattle.parser.specs.Yields.{Yield, mean}
use Rattle.parser.specs.Machine as m
use Rattle.parser.specs.Machine.{Item, Head, condensing, covering, Moved, stuck, moved, pops, begins, opened, starts, bodies, given, either, levels, onward, finish, Verdict, accepted, refused, verdict, query}
use Rattle.parser.proofs.Due.{Written, BindingWritten, PlacingsWritten, BindingsWritten, BindingsSoFar, Ready, Due, Undone, plain, minus, Closing, closing, above_within, below_within, ladder_due, again_due, undone_due, follows_due}
use Rattle.parser.proofs.Values.{TableIs, action_keeps, length_mean}

-- both move to the same stack, and the table is what was read
pub record Onwards (bs : List ℕ) (s r : List Item) (st : St) (ys : List Yield) : Type 0 where
  pub same : s ≡ r
  pub due : Due bs s (length ys)
  pub table : TableIs bs st ys

abbrev Kept : List ℕ → Moved St → Moved (List Yield) → Type 0
Kept bs stuck stuck = Unit {0}
Kept bs stuck (moved r ys) = ⊥
Kept bs (moved s st) stuck = ⊥
Kept bs (moved s st) (moved r ys) = Onwards bs s r st ys

module _ (bs : List ℕ) where
  on_to : {s : List Item} {st : St} {ys : List Yield} → Due bs s (length ys) → TableIs bs st ys → Kept bs (moved s st) (moved s ys)
  on_to d t = record { same = refl; due = d; table = t }

  -- an action, and then a stack
  acted : (a : Action) (s : List Item) (st : St) (ys : List Yield) → Ready bs a (length ys) → Due bs s (length (mean a ys)) → TableIs bs st ys → Kept bs (moved s (build a st)) (moved s (mean a ys))
  acted a s st ys r d t = on_to d (action_keeps bs a st ys r t)

  both : (b : Bool) (x x' : Moved St) (y y' : Moved (List Yield)) → Kept bs x y → Kept bs x' y' → Kept bs (cond b x x') (cond b y y')
  both true x x' y y' p q = p
  both false x x' y y' p q = q

  found : {A : Type 0} (o : Option A) (f : A → Moved St) (g : A → Moved (List Yield)) → ((a : A) → Kept bs (f a) (g a)) → Kept bs (given o f) (given o g)
  found (Some a) f g h = h a
  found None f g h = tt

  found_or : {A : Type 0} (o : Option A) (f : A → Moved St) (g : A → Moved (List Yield)) (x : Moved St) (y : Moved (List Yield)) → ((a : A) → Kept bs (f a) (g a)) → Kept bs x y → Kept bs (either o f x) (either o g y)
  found_or (Some a) f g x y h k = h a
  found_or None f g x y h k = k

  -- a numeral, a word or a `$` word that a token is
  by_number : (P : Option ℕ → Type 0) (t : Tok) (p : ℕ) → Spelt bs t p → ((n : ℕ) → n ≤ 2147483647 → P (Some n)) → P None → P (number_of t)
  by_number P (word w) p h f k = k
  by_number P (variable w) p h f k = k
  by_number P (numeral n) p h f k = f n h
  by_number P (symbol s) p h f k = k
  by_number P bad p h f k = k
  by_number P end p h f k = k

  by_word : (P : Option Word → Type 0) (t : Tok) (p : ℕ) → Spelt bs t p → ((w : Word) → Written bs w p → P (Some w)) → P None → P (word_of t)
  by_word P (word w) p h f k = f w h
  by_word P (variable w) p h f k = k
  by_word P (numeral n) p h f k = k
  by_word P (symbol s) p h f k = k
  by_word P bad p h f k = k
  by_word P end p h f k = k

  by_variable : (P : Option Word → Type 0) (t : Tok) (p : ℕ) → Spelt bs t p → ((w : Word) → Written bs w (p + 1) → P (Some w)) → P None → P (variable_of t)
  by_variable P (word w) p h f k = k
  by_variable P (variable w) p h f k = f w h
  by_variable P (numeral n) p h f k = k
  by_variable P (symbol s) p h f k = k
  by_variable P bad p h f k = k
  by_variable P end p h f k = k

  number_or : (x : Tok) (p : ℕ) (f : ℕ → Moved St) (g : ℕ → Moved (List Yield)) (u : Moved St) (v : Moved (List Yield)) → Spelt bs x p → ((n : ℕ) → n ≤ 2147483647 → Kept bs (f n) (g n)) → Kept bs u v → Kept bs (either (number_of x) f u) (either (number_of x) g v)
  number_or x p f g u v h k l = by_number (λ o. Kept bs (either o f u) (either o g v)) x p h k l

  number_found : (x : Tok) (p : ℕ) (f : ℕ → Moved St) (g : ℕ → Moved (List Yield)) → Spelt bs x p → ((n : ℕ) → n ≤ 2147483647 → Kept bs (f n) (g n)) → Kept bs (given (number_of x) f) (given (number_of x) g)
  number_found x p f g h k = by_number (λ o. Kept bs (given o f) (given o g)) x p h k tt

  word_found : (x : Tok) (p : ℕ) (f : Word → Moved St) (g : Word → Moved (List Yield)) → Spelt bs x p → ((w : Word) → Written bs w p → Kept bs (f w) (g w)) → Kept bs (given (word_of x) f) (given (word_of x) g)
  word_found x p f g h k = by_word (λ o. Kept bs (given o f) (given o g)) x p h k tt

  variable_found : (x : Tok) (p : ℕ) (f : Word → Moved St) (g : Word → Moved (List Yield)) → Spelt bs x p → ((w : Word) → Written bs w (p + 1) → Kept bs (f w) (g w)) → Kept bs (given (variable_of x) f) (given (variable_of x) g)
  variable_found x p f g h k = by_variable (λ o. Kept bs (given o f) (given o g)) x p h k tt

  opened_keeps : (o : Opening) (p : ℕ) (st : St) (ys : List Yield) (s : List Item) → Due bs s (suc (length ys)) → TableIs bs st ys → Kept bs (opened build o p st s) (opened mean o p ys s)
  opened_keeps opens.Round p st ys s d t = on_to (omega arith, (omega arith, d)) t
  opened_keeps (opens.Truth b) p st ys s d t = acted (leaf p (truth b)) (m.subsets ∷ s) st ys tt (omega arith, d) t
  opened_keeps (opens.Prefix u) p st ys s d t = on_to (omega arith, d) t
  opened_keeps (opens.Function f) p st ys s d t = on_to (omega arith, (omega arith, d)) t

  opening_keeps : (o : Option Opening) (p : ℕ) (st : St) (ys : List Yield) (s : List Item) → Due bs s (suc (length ys)) → TableIs bs st ys → Kept bs (given o (λ o. opened build o p st s)) (given o (λ o. opened mean o p ys s))
  opening_keeps (Some o) p st ys s d t = opened_keeps o p st ys s d t
  opening_keeps None p st ys s d t = tt

  begins_keeps : (x : Tok) (p : ℕ) (st : St) (ys : List Yield) (s : List Item) → Spelt bs x p → Due bs s (suc (length ys)) → TableIs bs st ys → Kept bs (begins build x p st s) (begins mean x p ys s)
  begins_keeps (word w) p st ys s h d t = acted (leaf p (iterating w)) (m.subsets ∷ s) st ys h (omega arith, d) t
  begins_keeps (variable w) p st ys s h d t = acted (leaf p (named w)) (m.subsets ∷ s) st ys h (omega arith, d) t
  begins_keeps (numeral n) p st ys s h d t = acted (leaf p (number n)) (m.subsets ∷ s) st ys h (omega arith, d) t
  begins_keeps (symbol x) p st ys s h d t = opening_keeps (opening x) p st ys s d t
  begins_keeps bad p st ys s h d t = tt
  begins_keeps end p st ys s h d t = tt

  starts_keeps : (x : Tok) (p : ℕ) (st : St) (ys : List Yield) (s : List Item) → Spelt bs x p → Due bs s (suc (length ys)) → TableIs bs st ys → Kept bs (starts build x p st s) (starts mean x p ys s)
  starts_keeps x p st ys s h d t =
      both (is the.Condense x) _ _ _ _ (on_to d t)
      (both (is the.Coverage x) _ _ _ _ (on_to (record { few = omega arith; each = tt }, d) t)
      (begins_keeps x p st ys (levels ++ s) h (ladder_due bs 6 0 s (suc (length ys)) (omega arith) d) t))

  bodies_keeps : (h : Head) (js : List Placing) (x : Tok) (st : St) (ys : List Yield) (s : List Item) → PlacingsWritten bs js → Due bs s (suc (length ys)) → TableIs bs st ys → Kept bs (bodies h js x st s) (bodies h js x ys s)
  bodies_keeps (condensing p f) js x st ys s w d t =
      both (is the.Where x) _ _ _ _ (on_to ((w, omega arith), d) t) (both (is the.Using x) _ _ _ _ (on_to ((w, omega arith), d) t) tt)
  bodies_keeps (covering p) js x st ys s w d t = both (is the.Values x) _ _ _ _ (on_to ((w, omega arith), d) t) tt

  -- one more binding
  binding_more : (k : ℕ) (cs : List Binding) (w : Word) (q : ℕ) (v : Word) (p : ℕ) → BindingsSoFar bs k cs → Written bs w (q + 1) → Written bs v p → BindingsWritten bs (cs ++ (bound w q v p ∷ [])) × (length (cs ++ (bound w q v p ∷ [])) + k ≤ 4)
  binding_more k cs w q v p d h i =
      let b = bound w q v p in
      let e : length (cs ++ (b ∷ [])) ≡ length cs + 1 = length-append cs (b ∷ []) in
      let far = d.few in
      (record { some = omega arith; few = omega arith; each = All-push (BindingWritten bs) cs b d.each (h, i) }, omega arith)

  pops_keep : (s : List Item) (st : St) (ys : List Yield) (x : Tok) (p : ℕ) → Spelt bs x p → Due bs s (length ys) → TableIs bs st ys → Kept bs (pops build s st x p) (pops mean s ys x p)
  pops_keep [] st ys x p h d t = tt
  pops_keep (m.expr ∷ s) st ys x p h d t = starts_keeps x p st ys s h d t
  pops_keep (m.operand ∷ s) st ys x p h d t = begins_keeps x p st ys s h d t
  pops_keep (m.tail n ∷ s) st ys x p h d t =
      let v = d.0 in
      found_or (join_of n x) _ _ _ _ (λ o. on_to (ladder_due bs n 0 _ (suc (length ys)) (omega arith) (omega arith, again_due bs n s (length ys) d.0 d.1)) t) (pops_keep s st ys x p h d.1 t)
  pops_keep (m.subsets ∷ s) st ys x p h d t = both (is the.OpenSquare x) _ _ _ _ (on_to (d.0, (d.0, d.1)) t) (pops_keep s st ys x p h d.1 t)
  pops_keep (m.entry e ∷ s) st ys x p h d t = found (axis_of x) _ _ (λ a. on_to (d.0, (d.0, d.1)) t)
  pops_keep (m.entries e ∷ s) st ys x p h d t = both (is the.Comma x) _ _ _ _ (on_to d t) (both (is the.CloseSquare x) _ _ _ _ (on_to d.1 t) tt)
  pops_keep (m.arg g a ∷ s) st ys x p h d t =
      let v = d.0 in
      number_or x p _ _ _ _ h
      (λ n l. on_to (above_within n l, l, plain, (omega arith, ladder_due bs 6 0 (m.must the.Close ∷ m.acts (slice g a) ∷ s) (suc (length ys)) (omega arith) (omega arith, d.1))) t)
      (both (is the.Minus x) _ _ _ _ (on_to (closing, (omega arith, d.1)) t) (starts_keeps x p st ys _ h (omega arith, d.1) t))
  pops_keep (m.arg_minus g a q ∷ s) st ys x p h d t =
      number_or x p _ _ _ _ h
      (λ n l. on_to (below_within n l, l, undone_minus q d.0, (omega arith, (omega arith, ladder_due bs 6 0 s (suc (length ys)) (omega arith) d.1))) t)
      (begins_keeps x p st ys _ h (omega arith, ladder_due bs 6 0 s (suc (length ys)) (omega arith) d.1) t)
    where
      undone_minus : (q : ℕ) {r : List Item} → Closing r → Undone 10 (m.subsets ∷ m.acts (prefix q unary.Minus) ∷ (levels ++ r))
      undone_minus q closing = minus
  pops_keep (m.arg_numeral g a v n q k ∷ s) st ys x p h d t =
      both (is the.Colon x) _ _ _ _
      (let u = undone_due bs (length ys) d.2 d.3 in on_to ((d.0, u.0), u.1) t)
      (pops_keep s (build (leaf q (number n)) st) (mean (leaf q (number n)) ys) x p h d.3 (action_keeps bs (leaf q (number n)) st ys d.1 t))
  pops_keep (m.bound e ∷ s) st ys x p h d t =
      number_or x p _ _ _ _ h
      (λ n l. on_to (follows_due bs e (pos n) s (length ys) (above_within n l) d.0 d.1) t)
      (both (is the.Minus x) _ _ _ _ (on_to d t) tt)
  pops_keep (m.bound_minus e ∷ s) st ys x p h d t =
      number_found x p _ _ h (λ n l. on_to (follows_due bs e (neg_ℤ (pos n)) s (length ys) (below_within n l) d.0 d.1) t)
  pops_keep (m.sign q ∷ s) st ys x p h d t = found (fold_of x) _ _ (λ f. on_to (record { few = omega arith; each = tt }, d) t)
  pops_keep (m.iterator k f js ∷ s) st ys x p h d t = word_found x p _ _ h (λ w l. on_to (d.0, l, d.1) t)
  pops_keep (m.iterator_axis k f js w q ∷ s) st ys x p h d t = found (axis_of x) _ _ (λ a. on_to ((d.0, d.1), d.2) t)
  pops_keep (m.iterators zero f js ∷ s) st ys x p h d t = bodies_keeps f js x st ys s d.0 d.2 t
  pops_keep (m.iterators (suc k) f js ∷ s) st ys x p h d t =
      let far = d.1 in
      both (is the.Comma x) _ _ _ _ (on_to (record { few = omega arith; each = d.0.each }, d.2) t) (bodies_keeps f js x st ys s d.0 d.2 t)
  pops_keep (m.binding k cs ∷ s) st ys x p h d t = variable_found x p _ _ h (λ w l. on_to (d.0, l, d.1) t)
  pops_keep (m.binding_name k cs w q ∷ s) st ys x p h d t =
      word_found x p _ _ h (λ v l. let b = binding_more k cs w q v p d.0 d.1 l in on_to (b.0, b.1, d.2) t)
  pops_keep (m.bindings zero cs ∷ s) st ys x p h d t = both (is the.Return x) _ _ _ _ (on_to (d.0, ap suc d.2) t) tt
  pops_keep (m.bindings (suc k) cs ∷ s) st ys x p h d t =
      let far = d.1 in
      both (is the.Comma x) _ _ _ _ (on_to (record { few = omega arith; each = d.0.each }, d.2) t) (both (is the.Return x) _ _ _ _ (on_to (d.0, ap suc d.2) t) tt)
  pops_keep (m.must z ∷ s) st ys x p h d t = both (is z x) _ _ _ _ (on_to d t) tt
  pops_keep (m.any_word ∷ s) st ys x p h d t = found (word_of x) _ _ (λ w. on_to d t)
  pops_keep (m.acts a ∷ s) st ys x p h d t =
      pops_keep s (build a st) (mean a ys) x p h (subst (Due bs s) (length_mean bs a ys d.0) d.1) (action_keeps bs a st ys d.0 t)
  pops_keep (m.ends cs ∷ s) st ys x p h d t = tt

-- accepted with the same bindings, one value that is the whole; or refused at the same place
pub record Whole (bs : List ℕ) (cs ds : List Binding) (st : St) (ys : List Yield) : Type 0 where
  pub same : cs ≡ ds
  pub written : BindingsWritten bs cs
  pub one : length ys ≡ 1
  pub table : TableIs bs st ys

abbrev pub Ended : List ℕ → Verdict St → Verdict (List Yield) → Type 0
Ended bs (accepted cs st) (accepted ds ys) = Whole bs cs ds st ys
Ended bs (accepted cs st) (refused q) = ⊥
Ended bs (refused p) (accepted ds ys) = ⊥
Ended bs (refused p) (refused q) = p ≡ q

finish_keeps : (bs : List ℕ) (s : List Item) (st : St) (ys : List Yield) (p : ℕ) → Due bs s (length ys) → TableIs bs st ys → Ended bs (finish build s st p) (finish mean s ys p)
finish_keeps bs [] st ys p d t = absurd d
finish_keeps bs (m.expr ∷ s) st ys p d t = refl
finish_keeps bs (m.operand ∷ s) st ys p d t = refl
finish_keeps bs (m.tail n ∷ s) st ys p d t = finish_keeps bs s st ys p d.1 t
finish_keeps bs (m.subsets ∷ s) st ys p d t = finish_keeps bs s st ys p d.1 t
finish_keeps bs (m.entry e ∷ s) st ys p d t = refl
finish_keeps bs (m.entries e ∷ s) st ys p d t = refl
finish_keeps bs (m.arg g a ∷ s) st ys p d t = refl
finish_keeps bs (m.arg_minus g a q ∷ s) st ys p d t = refl
finish_keeps bs (m.arg_numeral g a v n q k ∷ s) st ys p d t = finish_keeps bs s (build (leaf q (number n)) st) (mean (leaf q (number n)) ys) p d.3 (action_keeps bs (leaf q (number n)) st ys d.1 t)
finish_keeps bs (m.bound e ∷ s) st ys p d t = refl
finish_keeps bs (m.bound_minus e ∷ s) st ys p d t = refl
finish_keeps bs (m.sign q ∷ s) st ys p d t = refl
finish_keeps bs (m.iterator k h js ∷ s) st ys p d t = refl
finish_keeps bs (m.iterator_axis k h js w q ∷ s) st ys p d t = refl
finish_keeps bs (m.iterators k h js ∷ s) st ys p d t = refl
finish_keeps bs (m.binding k cs ∷ s) st ys p d t = refl
finish_keeps bs (m.binding_name k cs w q ∷ s) st ys p d t = refl
finish_keeps bs (m.bindings k cs ∷ s) st ys p d t = refl
finish_keeps bs (m.must x ∷ s) st ys p d t = refl
finish_keeps bs (m.any_word ∷ s) st ys p d t = refl
finish_keeps bs (m.acts a ∷ s) st ys p d t = finish_keeps bs s (build a st) (mean a ys) p (subst (Due bs s) (length_mean bs a ys d.0) d.1) (action_keeps bs a st ys d.0 t)
finish_keeps bs (m.ends cs ∷ s) st ys p d t = record { same = refl; written = d.0; one = d.1; table = t }

onward_keeps : (bs : List ℕ) (f : List Item → St → Verdict St) (g : List Item → List Yield → Verdict (List Yield)) (p : ℕ) (x : Moved St) (y : Moved (List Yield)) → Kept bs x y → ((s : List Item) (st : St) (ys : List Yield) → Due bs s (length ys) → TableIs bs st ys → Ended bs (f s st) (g s ys)) → Ended bs (onward f p x) (onward g p y)
onward_keeps bs f g p stuck stuck e h = refl
onward_keeps bs f g p stuck (moved r y) e h = absurd e
onward_keeps bs f g p (moved s x) stuck e h = absurd e
onward_keeps bs f g p (moved s x) (moved r y) e h = subst (λ z. Ended bs (f s x) (g z y)) e.same (h s x y e.due e.table)

-- read token by token, from any stack that is due
pub together : (bs : List ℕ) (len : ℕ) (s : List Item) (st : St) (ys : List Yield) (ts : List Placed) → AllSpelt bs ts → Due bs s (length ys) → TableIs bs st ys → Ended bs (verdict build len s st ts) (verdict mean len s ys ts)
unfolding verdict
together bs len s st ys [] h d t = finish_keeps bs s st ys len d t
together bs len s st ys (x ∷ ts) h d t =
    onward_keeps bs (λ r y. verdict build len r y ts) (λ r y. verdict mean len r y ts) x.1 (pops build s st x.0 x.1) (pops mean s ys x.0 x.1)
    (pops_keep bs s st ys x.0 x.1 h.0 d t)
    (λ r y z d' t'. together bs len r y z ts h.1 d' t')

-- a whole text
pub text_together : (bs : List ℕ) (table : List Node) → Ended bs (verdict build (length bs) query (state [] 0 table) (toks bs 0)) (verdict mean (length bs) query [] (toks bs 0))
text_together bs table =
    together bs (length bs) query (state [] 0 table) [] (toks bs 0) (toks_spelt bs 0)
    (record { few = omega arith; each = tt }, refl)
    (record { values = tt; counted = refl; formed = λ r. record { earlier = λ k l. absurd (omega arith); small = λ k l. absurd (omega arith) } })
