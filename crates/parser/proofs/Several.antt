-- What the stack makes of several items with commas between them, from what it makes of each.
use Rattle.std.proofs.Common.{◌≡◌, ℕ, zero, suc, ◌+◌, ◌-◌, ◌<◌, true, false, List, [], ◌∷◌, ◌++◌, length, map, None, Ok, Err, Option, Result, inl, inr, refl, sym, subst, ap, ◌∙◌, arith}
use Rattle.std.proofs.lemmas.List.{append_assoc, append-nil, length-replicate}
use Rattle.std.specs.Fn.{Shared}
use Rattle.std.specs.Borrow.{MutBor}
use Rattle.cursor.specs.declared.cursor.Cursor.{Cursor}
use Rattle.lexer.specs.declared.symbol.Symbol.{Symbol}
use Rattle.lexer.specs.declared.symbol.Symbol.TheVariants.{Comma}
use Rattle.lexer.specs.Tokens.{tok}
use Rattle.parser.specs.declared.node.Few.{Few}
use Rattle.parser.specs.Actions.{St, empty, filled, few}
use Rattle.parser.specs.Machine.{Item}
use Rattle.parser.specs.Reads.{on, Eaten, GoesOn}
use Rattle.parser.specs.Lists.{Gives, Chain, Filled, Several, OneItem, ItemRead, AllRead}
use Rattle.parser.proofs.See.{symbol_some}
use Rattle.parser.proofs.Joins.{goes}

past : {w : Symbol} {old new : Cursor} → Eaten w old new true → GoesOn old new
past {w} e = record {
  text = ap (λ c. c.text.now) e.moved ∙ e.peeked.text;
  forward = omega (arith, e.peeked.forward (symbol_some w (tok e.next.token) e.told), ap (λ c. c.at) e.moved);
}

-- what holds of each call holds of what a reader gives
pub by_calls : {F T : Type 0} (g : Shared F (MutBor Cursor × Unit {0}) (Result T ℕ × (MutBor Cursor × Unit {0}))) (f : F) (P : Cursor → Cursor → Result T ℕ → Type 0) → ((x y : MutBor Cursor) (r : Result T ℕ) → g.post f (x, tt) (r, (y, tt)) → P x.now y.now r) → (old new : Cursor) (r : Result T ℕ) → Gives g f old new r → P old new r
by_calls g f P h old new r v = subst (λ c. P c new r) v.shows (subst (λ c. P v.shown.now c r) v.leaves (h v.shown v.left r v.met))

module _ {T : Type 0} (R : Cursor → Cursor → Result T ℕ → Type 0) (steps : (old new : Cursor) (r : Result T ℕ) → R old new r → GoesOn old new) where
  goes_along : (old new : Cursor) (ts : List T) → Chain R old new ts → GoesOn old new
  goes_along old new [] c = subst (GoesOn old) c (record { text = refl; forward = omega arith })
  goes_along old new (t ∷ ts) c = goes (past c.2) (goes (steps c.0 c.1 (Ok t) c.3) (goes_along c.1 new ts c.4))

  pub several_go : (n : ℕ) (old new : Cursor) (r : Result (Few T n) ℕ) → Several R n old new r → GoesOn old new
  several_go n old new (Ok r) v = goes (steps old v.0 (Ok r.first) v.1) (goes_along v.0 new v.2.more v.2.chain)
  several_go n old new (Err p) (inl v) = steps old new (Err p) v
  several_go n old new (Err p) (inr v) = goes (steps old v.0 (Ok v.1) v.2) (goes (goes_along v.0 v.3.last v.3.more v.3.chain) (goes (past v.3.comma) (steps v.3.due new (Err p) v.3.missed)))

module _ {A T H : Type 0} (keep : A → T) (due after : ℕ → H → List A → Item) (R : Cursor → Cursor → Result T ℕ → Type 0)
    (steps : (old new : Cursor) (r : Result T ℕ) → R old new r → GoesOn old new)
    (reads : (old new : Cursor) (r : Result T ℕ) → R old new r → ItemRead keep due after old new r)
    (next : (old new : Cursor) → Eaten Comma old new true → (k : ℕ) (h : H) (js : List A) (s : List Item) (st : St) → on old (after (suc k) h js ∷ s) st ≡ on new (due k h js ∷ s) st)
    (last : (old new : Cursor) → Eaten Comma old new false → (k : ℕ) (h : H) (js : List A) (s : List Item) (st : St) → on old (after k h js ∷ s) st ≡ on new (after 0 h js ∷ s) st) where
  -- what a chain reads after an item where j more may come, and k after it
  record Chained (old new : Cursor) (ts : List T) : Type 0 where
    what : List A
    same : map keep what ≡ ts
    turns : (j k : ℕ) → j ≡ length ts + k → (h : H) (js : List A) (s : List Item) (st : St) → on old (after j h js ∷ s) st ≡ on new (after k h (js ++ what) ∷ s) st

  one_more : (old a b new : Cursor) (t : T) (ts : List T) → Eaten Comma old a true → OneItem keep due after a b t → Chained b new ts → Chained old new (t ∷ ts)
  one_more old a b new t ts e w ws = record {
    what = w.what ∷ ws.what;
    same = λ i. w.same i ∷ ws.same i;
    turns = turns;
  }
    where
      turns : (j k : ℕ) → j ≡ length (t ∷ ts) + k → (h : H) (js : List A) (s : List Item) (st : St) → on old (after j h js ∷ s) st ≡ on new (after k h (js ++ w.what ∷ ws.what) ∷ s) st
      turns zero k d h js s st = absurd (omega (arith, d))
      turns (suc j) k d h js s st =
          next old a e j h js s st
          ∙ w.turns j h js s st
          ∙ ws.turns j k (omega (arith, d)) h (js ++ w.what ∷ []) s st
          ∙ ap (λ xs. on new (after k h xs ∷ s) st) (append_assoc js (w.what ∷ []) ws.what)

  chained : (old new : Cursor) (ts : List T) → Chain R old new ts → Chained old new ts
  chained old new [] c = record {
    what = [];
    same = refl;
    turns = λ j k e h js s st. let d : j ≡ k = omega (arith, e) in (λ i. on (c i) (after (d i) h (sym (append-nil js) i) ∷ s) st);
  }
  chained old new (t ∷ ts) c = one_more old c.0 c.1 new t ts c.2 (reads c.0 c.1 (Ok t) c.3) (chained c.1 new ts c.4)

  -- after a chain no more may come
  filled_up : (n : ℕ) (is : List (Option T)) (old new : Cursor) → Filled R (empty n) is old new → (what : List A) × (filled (map keep what) (empty n) ≡ is) × ((h : H) (js : List A) (s : List Item) (st : St) → on old (after n h js ∷ s) st ≡ on new (after 0 h (js ++ what) ∷ s) st)
  filled_up n is old new f =
      let w = chained old new f.more f.chain in
      let len : length (empty {T = T} n) ≡ n = length-replicate n None in (
        w.what,
        ap (λ xs. filled xs (empty n)) w.same ∙ sym f.same,
        λ h js s st. w.turns n (n - length f.more) (omega (arith, f.few, len)) h js s st ∙ ending (n - length f.more) (λ q. f.over (omega (arith, len, q))) h (js ++ w.what) s st,
      )
    where
      ending : (k : ℕ) → (0 < k → Eaten Comma new new false) → (h : H) (js : List A) (s : List Item) (st : St) → on new (after k h js ∷ s) st ≡ on new (after 0 h js ∷ s) st
      ending zero e h js s st = refl
      ending (suc k) e h js s st = last new new (e (omega arith)) (suc k) h js s st

  pub several_read : (n : ℕ) (gather : List A → Few T n) → ((x : A) (xs : List A) → few n (keep x) (map keep xs) ≡ gather (x ∷ xs)) → (old new : Cursor) (r : Result (Few T n) ℕ) → Several R n old new r → AllRead n gather due after old new r
  several_read n gather g old new (Ok r) v =
      let w = reads old v.0 (Ok r.first) v.1 in
      let ws = filled_up n r.more v.0 new v.2 in
      record {
        what = w.what ∷ ws.0;
        same = sym (g w.what ws.0) ∙ (λ i. record { first = w.same i; more = ws.1 i });
        forward = omega (arith, w.forward, (goes_along R steps v.0 new v.2.more v.2.chain).forward);
        turns = λ h s st. w.turns n h [] s st ∙ ws.2 h (w.what ∷ []) s st;
      }
  several_read n gather g old new (Err p) (inl v) = λ h s st. reads old new (Err p) v n h [] s st
  several_read n gather g old new (Err p) (inr v) = λ h s st.
      let w = reads old v.0 (Ok v.1) v.2 in
      let ws = chained v.0 v.3.last v.3.more v.3.chain in
      let len : length (empty {T = T} n) ≡ n = length-replicate n None in
      let k = n - length v.3.more - 1 in
      w.turns n h [] s st
      ∙ ws.turns n (suc k) (omega (arith, v.3.few, len)) h (w.what ∷ []) s st
      ∙ next v.3.last v.3.due v.3.comma k h ((w.what ∷ []) ++ ws.what) s st
      ∙ reads v.3.due new (Err p) v.3.missed k h ((w.what ∷ []) ++ ws.what) s st
