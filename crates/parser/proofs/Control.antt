-- The stack alone decides what comes of a text: two states go the same way.
use Rattle.std.proofs.Common.{◌≡◌, ℕ, zero, suc, Bool, true, false, cond, List, [], ◌∷◌, ◌++◌, Some, None, Option, refl, subst}
use Rattle.lexer.specs.declared.symbol.Symbol.TheVariants as the
use Rattle.lexer.specs.Tokens.{Tok, word, variable, numeral, symbol, bad, end}
use Rattle.lexer.specs.Toks.{Placed}
use Rattle.parser.specs.declared.roles.Opening.{Opening}
use Rattle.parser.specs.declared.roles.Opening.TheVariants as opens
use Rattle.parser.specs.Axes.{axis_of}
use Rattle.parser.specs.Roles.{is, opening, fold_of, join_of, number_of, word_of, variable_of}
use Rattle.parser.specs.Actions.{Placing, Action, leaf, number}
use Rattle.parser.specs.Machine as m
use Rattle.parser.specs.Machine.{Item, Head, condensing, covering, Moved, stuck, moved, pops, begins, opened, starts, bodies, given, either, when, levels, onward, finish, Verdict, accepted, refused, verdict}

-- moves to the same stack
abbrev Same : {S T : Type 0} → Moved S → Moved T → Type 0
Same stuck stuck = Unit {0}
Same stuck (moved r y) = ⊥
Same (moved s x) stuck = ⊥
Same (moved s x) (moved r y) = s ≡ r

both : {S T : Type 0} (b : Bool) (x x' : Moved S) (y y' : Moved T) → Same x y → Same x' y' → Same (cond b x x') (cond b y y')
both true x x' y y' p q = p
both false x x' y y' p q = q

found : {A S T : Type 0} (o : Option A) (f : A → Moved S) (g : A → Moved T) → ((a : A) → Same (f a) (g a)) → Same (given o f) (given o g)
found (Some a) f g h = h a
found None f g h = tt

found_or : {A S T : Type 0} (o : Option A) (f : A → Moved S) (g : A → Moved T) (x : Moved S) (y : Moved T) → ((a : A) → Same (f a) (g a)) → Same x y → Same (either o f x) (either o g y)
found_or (Some a) f g x y h k = h a
found_or None f g x y h k = k

opened_same : {S T : Type 0} (act : Action → S → S) (act' : Action → T → T) (o : Opening) (p : ℕ) (st : S) (st' : T) (s : List Item) → Same (opened act o p st s) (opened act' o p st' s)
opened_same act act' opens.Round p st st' s = refl
opened_same act act' (opens.Truth b) p st st' s = refl
opened_same act act' (opens.Prefix u) p st st' s = refl
opened_same act act' (opens.Function f) p st st' s = refl

begins_same : {S T : Type 0} (act : Action → S → S) (act' : Action → T → T) (t : Tok) (p : ℕ) (st : S) (st' : T) (s : List Item) → Same (begins act t p st s) (begins act' t p st' s)
begins_same act act' (word w) p st st' s = refl
begins_same act act' (variable w) p st st' s = refl
begins_same act act' (numeral n) p st st' s = refl
begins_same act act' (symbol x) p st st' s = found (opening x) _ _ (λ o. opened_same act act' o p st st' s)
begins_same act act' bad p st st' s = tt
begins_same act act' end p st st' s = tt

starts_same : {S T : Type 0} (act : Action → S → S) (act' : Action → T → T) (t : Tok) (p : ℕ) (st : S) (st' : T) (s : List Item) → Same (starts act t p st s) (starts act' t p st' s)
starts_same act act' t p st st' s = both (is the.Condense t) _ _ _ _ refl (both (is the.Coverage t) _ _ _ _ refl (begins_same act act' t p st st' (levels ++ s)))

bodies_same : {S T : Type 0} (h : Head) (js : List Placing) (t : Tok) (st : S) (st' : T) (s : List Item) → Same (bodies h js t st s) (bodies h js t st' s)
bodies_same (condensing p f) js t st st' s = both (is the.Where t) _ _ _ _ refl (both (is the.Using t) _ _ _ _ refl tt)
bodies_same (covering p) js t st st' s = both (is the.Values t) _ _ _ _ refl tt

pops_same : {S T : Type 0} (act : Action → S → S) (act' : Action → T → T) (s : List Item) (st : S) (st' : T) (t : Tok) (p : ℕ) → Same (pops act s st t p) (pops act' s st' t p)
pops_same act act' [] st st' t p = tt
pops_same act act' (m.expr ∷ s) st st' t p = starts_same act act' t p st st' s
pops_same act act' (m.operand ∷ s) st st' t p = begins_same act act' t p st st' s
pops_same act act' (m.tail n ∷ s) st st' t p = found_or (join_of n t) _ _ _ _ (λ o. refl) (pops_same act act' s st st' t p)
pops_same act act' (m.subsets ∷ s) st st' t p = both (is the.OpenSquare t) _ _ _ _ refl (pops_same act act' s st st' t p)
pops_same act act' (m.entry e ∷ s) st st' t p = found (axis_of t) _ _ (λ a. refl)
pops_same act act' (m.entries e ∷ s) st st' t p = both (is the.Comma t) _ _ _ _ refl (both (is the.CloseSquare t) _ _ _ _ refl tt)
pops_same act act' (m.arg g a ∷ s) st st' t p = found_or (number_of t) _ _ _ _ (λ n. refl) (both (is the.Minus t) _ _ _ _ refl (starts_same act act' t p st st' _))
pops_same act act' (m.arg_minus g a q ∷ s) st st' t p = found_or (number_of t) _ _ _ _ (λ n. refl) (begins_same act act' t p st st' _)
pops_same act act' (m.arg_numeral g a v n q k ∷ s) st st' t p = both (is the.Colon t) _ _ _ _ refl (pops_same act act' s (act (leaf q (number n)) st) (act' (leaf q (number n)) st') t p)
pops_same act act' (m.bound e ∷ s) st st' t p = found_or (number_of t) _ _ _ _ (λ n. refl) (both (is the.Minus t) _ _ _ _ refl tt)
pops_same act act' (m.bound_minus e ∷ s) st st' t p = found (number_of t) _ _ (λ n. refl)
pops_same act act' (m.sign q ∷ s) st st' t p = found (fold_of t) _ _ (λ f. refl)
pops_same act act' (m.iterator k h js ∷ s) st st' t p = found (word_of t) _ _ (λ w. refl)
pops_same act act' (m.iterator_axis k h js w q ∷ s) st st' t p = found (axis_of t) _ _ (λ a. refl)
pops_same act act' (m.iterators zero h js ∷ s) st st' t p = bodies_same h js t st st' s
pops_same act act' (m.iterators (suc k) h js ∷ s) st st' t p = both (is the.Comma t) _ _ _ _ refl (bodies_same h js t st st' s)
pops_same act act' (m.binding k bs ∷ s) st st' t p = found (variable_of t) _ _ (λ w. refl)
pops_same act act' (m.binding_name k bs w q ∷ s) st st' t p = found (word_of t) _ _ (λ v. refl)
pops_same act act' (m.bindings zero bs ∷ s) st st' t p = both (is the.Return t) _ _ _ _ refl tt
pops_same act act' (m.bindings (suc k) bs ∷ s) st st' t p = both (is the.Comma t) _ _ _ _ refl (both (is the.Return t) _ _ _ _ refl tt)
pops_same act act' (m.must x ∷ s) st st' t p = both (is x t) _ _ _ _ refl tt
pops_same act act' (m.any_word ∷ s) st st' t p = found (word_of t) _ _ (λ w. refl)
pops_same act act' (m.acts a ∷ s) st st' t p = pops_same act act' s (act a st) (act' a st') t p
pops_same act act' (m.ends bs ∷ s) st st' t p = tt

-- accepted with the same bindings, or refused at the same place
abbrev pub Agree : {S T : Type 0} → Verdict S → Verdict T → Type 0
Agree (accepted bs st) (accepted cs st') = bs ≡ cs
Agree (accepted bs st) (refused q) = ⊥
Agree (refused p) (accepted cs st') = ⊥
Agree (refused p) (refused q) = p ≡ q

finish_same : {S T : Type 0} (act : Action → S → S) (act' : Action → T → T) (s : List Item) (st : S) (st' : T) (p : ℕ) → Agree (finish act s st p) (finish act' s st' p)
finish_same act act' [] st st' p = refl
finish_same act act' (m.expr ∷ s) st st' p = refl
finish_same act act' (m.operand ∷ s) st st' p = refl
finish_same act act' (m.tail n ∷ s) st st' p = finish_same act act' s st st' p
finish_same act act' (m.subsets ∷ s) st st' p = finish_same act act' s st st' p
finish_same act act' (m.entry e ∷ s) st st' p = refl
finish_same act act' (m.entries e ∷ s) st st' p = refl
finish_same act act' (m.arg g a ∷ s) st st' p = refl
finish_same act act' (m.arg_minus g a q ∷ s) st st' p = refl
finish_same act act' (m.arg_numeral g a v n q k ∷ s) st st' p = finish_same act act' s (act (leaf q (number n)) st) (act' (leaf q (number n)) st') p
finish_same act act' (m.bound e ∷ s) st st' p = refl
finish_same act act' (m.bound_minus e ∷ s) st st' p = refl
finish_same act act' (m.sign q ∷ s) st st' p = refl
finish_same act act' (m.iterator k h js ∷ s) st st' p = refl
finish_same act act' (m.iterator_axis k h js w q ∷ s) st st' p = refl
finish_same act act' (m.iterators k h js ∷ s) st st' p = refl
finish_same act act' (m.binding k bs ∷ s) st st' p = refl
finish_same act act' (m.binding_name k bs w q ∷ s) st st' p = refl
finish_same act act' (m.bindings k bs ∷ s) st st' p = refl
finish_same act act' (m.must x ∷ s) st st' p = refl
finish_same act act' (m.any_word ∷ s) st st' p = refl
finish_same act act' (m.acts a ∷ s) st st' p = finish_same act act' s (act a st) (act' a st') p
finish_same act act' (m.ends bs ∷ s) st st' p = refl

onward_same : {S T : Type 0} (f : List Item → S → Verdict S) (g : List Item → T → Verdict T) (p : ℕ) (x : Moved S) (y : Moved T) → Same x y → ((s : List Item) (st : S) (st' : T) → Agree (f s st) (g s st')) → Agree (onward f p x) (onward g p y)
onward_same f g p stuck stuck e h = refl
onward_same f g p stuck (moved r y) e h = absurd e
onward_same f g p (moved s x) stuck e h = absurd e
onward_same f g p (moved s x) (moved r y) e h = subst (λ z. Agree (f s x) (g z y)) e (h s x y)

pub agree : {S T : Type 0} (act : Action → S → S) (act' : Action → T → T) (len : ℕ) (s : List Item) (st : S) (st' : T) (ts : List Placed) → Agree (verdict act len s st ts) (verdict act' len s st' ts)
unfolding verdict
agree act act' len s st st' [] = finish_same act act' s st st' len
agree act act' len s st st' (x ∷ ts) = onward_same (λ r y. verdict act len r y ts) (λ r y. verdict act' len r y ts) x.1 (pops act s st x.0 x.1) (pops act' s st' x.0 x.1) (pops_same act act' s st st' x.0 x.1) (λ r y y'. agree act act' len r y y' ts)
