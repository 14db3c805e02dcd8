-- The ends of ranges: a numeral with at most one minus.
use Rattle.std.proofs.Common.{◌≡◌, ℕ, Bool, true, false, cond, List, [], ◌∷◌, pos, neg_ℤ, Some, None, sym, refl, ap, ◌∙◌, subst, arith}
use Rattle.std.proofs.lemmas.Bool.{false≢true}
use Rattle.cursor.specs.declared.cursor.Cursor.{Cursor}
use Rattle.lexer.specs.declared.symbol.Symbol.{Symbol}
use Rattle.lexer.specs.declared.symbol.Symbol.TheVariants.{Minus, Colon}
use Rattle.lexer.specs.declared.token.Lexed.{Lexed}
use Rattle.lexer.specs.Tokens.{Tok, tok, word, variable, numeral, symbol, bad, end}
use Rattle.lexer.specs.Toks.{Placed, consed, is_end, Peeked}
use Rattle.parser.specs.Roles.{is, number_of}
use Rattle.parser.specs.Actions.{St}
use Rattle.parser.specs.Machine.{Item, Edge, moved, either, when, bound, bound_minus, follows, refused}
use Rattle.parser.specs.Reads.{on, Eaten, Taken, Missed, Bounded, Ahead, as_number}
use Rattle.parser.proofs.See.{arm, alike, symbol_is, number_is, beyond}
use Rattle.parser.proofs.Takes.{moves, took_it, halts, missed}
use Rattle.parser.proofs.Colons.{first}

-- the end is no symbol
end_is : (w : Symbol) (t : Tok) → is_end t ≡ true → is w t ≡ false
end_is w (word x) e = absurd (false≢true e)
end_is w (variable x) e = absurd (false≢true e)
end_is w (numeral n) e = absurd (false≢true e)
end_is w (symbol s) e = absurd (false≢true e)
end_is w bad e = absurd (false≢true e)
end_is w end e = refl

-- one token, seen twice
other : (w : Symbol) (t u : Tok) (p q : ℕ) (ts us : List Placed) → consed t p ts ≡ consed u q us → is w t ≡ false → (a b : Bool) → is_end t ≡ a → is_end u ≡ b → is w u ≡ false
other w t u p q ts us e h a true i j = end_is w u j
other w t u p q ts us e h true false i j =
    let f : [] ≡ (u, q) ∷ us = sym (λ k. cond (i k) [] ((t, p) ∷ ts)) ∙ e ∙ (λ k. cond (j k) [] ((u, q) ∷ us)) in
    cc
other w t u p q ts us e h false false i j =
    let f : (t, p) ∷ ts ≡ (u, q) ∷ us = sym (λ k. cond (i k) [] ((t, p) ∷ ts)) ∙ e ∙ (λ k. cond (j k) [] ((u, q) ∷ us)) in
    ap (is w) (sym (ap (λ (x : Placed). x.0) (first (t, p) (u, q) ts us f))) ∙ h

pub same_want : (w : Symbol) {bs : List ℕ} {at : ℕ} {a b : Lexed} → Peeked bs at a → Peeked bs at b → is w (tok a.token) ≡ false → is w (tok b.token) ≡ false
same_want w {a = a} {b = b} p q h = other w (tok a.token) (tok b.token) a.place b.place _ _ (sym p.tokens ∙ q.tokens) h _ _ refl refl

module _ (old mid : Cursor) where
  -- what is no end of a range
  pub no_limit : (r : Bool) → Eaten Minus old mid r → (p : ℕ) → Missed ℕ number_of mid p → (e : Edge) (s : List Item) (st : St) → on old (bound e ∷ s) st ≡ refused p
  no_limit true m p h e s st =
      arm m.peeked (symbol_is Minus (tok m.next.token) m.told) (bound e ∷ s) st
      ∙ missed (subst (λ c. Missed ℕ number_of c p) m.moved h) (bound_minus e ∷ s) (λ n _. follows e (neg_ℤ (pos n)) s) (λ _ _ _. refl) (λ _ _. refl) st
  no_limit false m p h e s st =
      let k : Missed ℕ number_of old p = subst (λ c. Missed ℕ number_of c p) m.moved h in
      let d : is Minus k.token ≡ false = other Minus (tok m.next.token) k.token m.next.place p _ k.rest (sym m.peeked.tokens ∙ k.tokens) m.told _ _ refl refl in
      halts k (bound e ∷ s) st (λ _. refl) (λ i. either (k.none i) (λ n. moved (follows e (pos n) s) st) (when (d i) (bound_minus e ∷ s) st))

  pub limit : (new : Cursor) (r : Bool) → Eaten Minus old mid r → (n : ℕ) → Taken ℕ ℕ number_of as_number mid new n → Bounded old new (cond r (neg_ℤ (pos n)) (pos n))
  limit new true m n h =
      let t = symbol_is Minus (tok m.next.token) m.told in
      let k : Taken ℕ ℕ number_of as_number m.next.next new n = subst (λ c. Taken ℕ ℕ number_of as_number c new n) m.moved h in
      record {
        forward = omega (arith, beyond m.peeked t refl, k.forward);
        turns = λ e s st. arm m.peeked t (bound e ∷ s) st ∙ took_it k (bound_minus e ∷ s) (λ n _. follows e (neg_ℤ (pos n)) s) (λ _ _ _. refl) st;
      }
  limit new false m n h =
      let k : Taken ℕ ℕ number_of as_number old new n = subst (λ c. Taken ℕ ℕ number_of as_number c new n) m.moved h in
      record {
        forward = k.forward;
        turns = λ e s st.
            moves k (bound e ∷ s) st (follows e (pos k.value) s) (λ i. either (k.reads i) (λ n. moved (follows e (pos n) s) st) (when (is Minus k.token) (bound_minus e ∷ s) st))
            ∙ ap (λ n. on new (follows e (pos n) s) st) k.same;
      }

  module _ (l : Lexed) (p : Peeked mid.text.now mid.at l) where
    -- neither a numeral nor one after a minus
    pub no_size : (r : Bool) → Eaten Minus old mid r → number_of (tok l.token) ≡ None → Ahead old old None
    no_size true m n g a =
        let t = symbol_is Minus (tok m.next.token) m.told in
        let q : Peeked m.next.next.text.now m.next.next.at l = subst (λ (c : Cursor). Peeked c.text.now c.at l) m.moved p in
        record { forward = omega arith; turns = λ s st. arm m.peeked t _ st ∙ alike q _ st _ _ (λ _. refl) (rw n refl) ∙ sym (arm m.peeked t _ st) }
    no_size false m n g a =
        let q : Peeked old.text.now old.at l = subst (λ (c : Cursor). Peeked c.text.now c.at l) m.moved p in
        let d : is Minus (tok l.token) ≡ false = other Minus (tok m.next.token) (tok l.token) m.next.place l.place _ _ (sym m.peeked.tokens ∙ q.tokens) m.told _ _ refl refl in
        record { forward = omega arith; turns = λ s st. alike q _ st _ st (λ _. refl) (rw (n, d) refl) }

    -- a numeral, or one after a minus, and no colon
    pub no_colon : (r : Bool) → Eaten Minus old mid r → (n : ℕ) → number_of (tok l.token) ≡ Some n → (new : Cursor) → Eaten Colon l.next new false → Ahead old old None
    no_colon true m n h new c g a =
        let t = symbol_is Minus (tok m.next.token) m.told in
        let q : Peeked m.next.next.text.now m.next.next.at l = subst (λ (c : Cursor). Peeked c.text.now c.at l) m.moved p in
        let u = number_is (tok l.token) n h in
        record {
          forward = omega arith;
          turns = λ s st. arm m.peeked t _ st ∙ arm q u _ st ∙ alike c.peeked _ st _ _ (λ _. refl) (rw c.told refl) ∙ sym (arm m.peeked t _ st ∙ arm q u _ st);
        }
    no_colon false m n h new c g a =
        let q : Peeked old.text.now old.at l = subst (λ (c : Cursor). Peeked c.text.now c.at l) m.moved p in
        let u = number_is (tok l.token) n h in
        record {
          forward = omega arith;
          turns = λ s st. arm q u _ st ∙ alike c.peeked _ st _ _ (λ _. refl) (rw c.told refl) ∙ sym (arm q u _ st);
        }

    -- a numeral, or one after a minus, and a colon
    pub colon : (r : Bool) → Eaten Minus old mid r → (n : ℕ) → number_of (tok l.token) ≡ Some n → (new : Cursor) → Eaten Colon l.next new true → Ahead old new (Some (cond r (neg_ℤ (pos n)) (pos n)))
    colon true m n h new c g a =
        let t = symbol_is Minus (tok m.next.token) m.told in
        let q : Peeked m.next.next.text.now m.next.next.at l = subst (λ (c : Cursor). Peeked c.text.now c.at l) m.moved p in
        let u = number_is (tok l.token) n h in
        let v = symbol_is Colon (tok c.next.token) c.told in
        record {
          forward = omega (arith, beyond m.peeked t refl, beyond q u refl, beyond c.peeked v refl, ap (λ (c : Cursor). c.at) c.moved);
          turns = λ s st. arm m.peeked t _ st ∙ arm q u _ st ∙ arm c.peeked v _ st ∙ ap (λ k. on k _ st) (sym c.moved);
        }
    colon false m n h new c g a =
        let q : Peeked old.text.now old.at l = subst (λ (c : Cursor). Peeked c.text.now c.at l) m.moved p in
        let u = number_is (tok l.token) n h in
        let v = symbol_is Colon (tok c.next.token) c.told in
        record {
          forward = omega (arith, beyond q u refl, beyond c.peeked v refl, ap (λ (c : Cursor). c.at) c.moved);
          turns = λ s st. arm q u _ st ∙ arm c.peeked v _ st ∙ ap (λ k. on k _ st) (sym c.moved);
        }
