-- A single token that is taken, or is not there.
use Rattle.std.proofs.Common.{◌≡◌, ℕ, ◌<◌, Ok, Err, Result, is_ok, Bool, true, false, cond, List, [], ◌∷◌, length, Some, None, Option, sym, refl, ap, ◌∙◌, arith}
use Rattle.lexer.specs.Tokens.{Tok, tok, word, variable, numeral, symbol, bad, end}
use Rattle.lexer.specs.Toks.{Placed, toks, consed, is_end, Peeked}
use Rattle.lexer.specs.declared.token.Lexed.{Lexed}
use Rattle.parser.specs.Actions.{St, build}
use Rattle.parser.specs.Machine.{Item, moved, stuck, pops, finish, onward, refused, verdict, given, must, ends}
use Rattle.lexer.specs.declared.token.Token.{Token}
use Rattle.lexer.specs.declared.token.Token.TheVariants as token
use Rattle.syntax.specs.Tree.{Binding}
use Rattle.parser.proofs.See.{from_byte, arm, turn, alike, fails, symbol_some, symbol_is}
use Rattle.parser.specs.Reads.{on, Taken, Missed, Eaten, Stood, Passes, Stops, Expected}
use Rattle.lexer.specs.declared.symbol.Symbol.{Symbol}
use Rattle.cursor.specs.declared.cursor.Cursor.{Cursor}

-- the stack waits for what f reads, and goes on with k
abbrev pub Waits : {A : Type 0} → (Tok → Option A) → List Item → (A → ℕ → List Item) → Type 0
Waits f s k = (st : St) (t : Tok) (p : ℕ) → pops build s st t p ≡ given (f t) (λ a. moved (k a p) st)

at_taken : (len : ℕ) (s : List Item) (st : St) (s' : List Item) (t : Tok) (p : ℕ) (ts : List Placed) → pops build s st t p ≡ moved s' st → verdict build len s st ((t, p) ∷ ts) ≡ verdict build len s' st ts
unfolding verdict
at_taken len s st s' t p ts e = ap (onward (λ x y. verdict build len x y ts) p) e

-- the token that was taken moves the stack
pub moves : {A R : Type 0} {f : Tok → Option A} {keep : A → ℕ → R} {old new : Cursor} {r : R} → (h : Taken A R f keep old new r) → (s : List Item) (st : St) (s' : List Item) → pops build s st h.token h.place ≡ moved s' st → on old s st ≡ on new s' st
moves {old = old} {new = new} h s st s' e =
    ap (verdict build (length old.text.now) s st) h.tokens
    ∙ at_taken (length old.text.now) s st s' h.token h.place (toks new.text.now new.at) e
    ∙ ap (λ bs. verdict build (length bs) s' st (toks new.text.now new.at)) (sym h.text)

pub took : {A R : Type 0} {f : Tok → Option A} {keep : A → ℕ → R} {old new : Cursor} {r : R} → (h : Taken A R f keep old new r) → (s : List Item) (k : A → ℕ → List Item) → Waits f s k → (st : St) → on old s st ≡ on new (k h.value h.place) st
took h s k w st = moves h s st _ (w st h.token h.place ∙ ap (λ o. given o (λ b. moved (k b h.place) st)) h.reads)

at_missed : (len : ℕ) (s : List Item) (st : St) (t : Tok) (p : ℕ) (ts : List Placed) → ((q : ℕ) → finish build s st q ≡ refused q) → pops build s st t p ≡ stuck → (b : Bool) → is_end t ≡ b → (b ≡ true → p ≡ len) → verdict build len s st (consed t p ts) ≡ refused p
unfolding verdict
at_missed len s st t p ts g e true q h = rw q (g len ∙ ap refused (sym (h refl)))
at_missed len s st t p ts g e false q h = rw q (ap (onward (λ x y. verdict build len x y ts) p) e)

-- the token that was not taken stops the stack
pub halts : {A : Type 0} {f : Tok → Option A} {old : Cursor} {p : ℕ} → (h : Missed A f old p) → (s : List Item) (st : St) → ((q : ℕ) → finish build s st q ≡ refused q) → pops build s st h.token p ≡ stuck → on old s st ≡ refused p
halts {old = old} {p = p} h s st g e =
    ap (verdict build (length old.text.now) s st) h.tokens ∙ at_missed (length old.text.now) s st h.token p h.rest g e (is_end h.token) refl h.at_end

pub missed : {A : Type 0} {f : Tok → Option A} {old : Cursor} {p : ℕ} → (h : Missed A f old p) → (s : List Item) (k : A → ℕ → List Item) → Waits f s k → ((st : St) (q : ℕ) → finish build s st q ≡ refused q) → (st : St) → on old s st ≡ refused p
missed {p = p} h s k w g st = halts h s st (g st) (w st h.token p ∙ ap (λ o. given o (λ b. moved (k b p) st)) h.none)

-- what a reading finds is not the end
pub found : {A : Type 0} (f : Tok → Option A) → f end ≡ None → (t : Tok) (a : A) → f t ≡ Some a → is_end t ≡ false
found f n (word w) a e = refl
found f n (variable w) a e = refl
found f n (numeral m) a e = refl
found f n (symbol s) a e = refl
found f n bad a e = refl
found f n end a e = cc

-- from a look at the next token
pub taking : {A R : Type 0} (f : Tok → Option A) (keep : A → ℕ → R) (old : Cursor) {l : Lexed} → f end ≡ None → Peeked old.text.now old.at l → (a : A) → f (tok l.token) ≡ Some a → Taken A R f keep old l.next (keep a l.place)
taking f keep old {l} n p a e =
    let s = found f n (tok l.token) a e in
    record {
      token = tok l.token;
      place = l.place;
      value = a;
      text = p.text;
      tokens = p.tokens ∙ (λ i. cond (s i) [] ((tok l.token, l.place) ∷ toks (sym p.text i) l.next.at));
      reads = e;
      same = refl;
      forward = p.forward s;
    }

pub missing : {A : Type 0} (f : Tok → Option A) (old : Cursor) {l : Lexed} → Peeked old.text.now old.at l → f (tok l.token) ≡ None → Missed A f old l.place
missing f old {l} p e = record { token = tok l.token; rest = toks old.text.now l.next.at; tokens = p.tokens; none = e; at_end = p.ends }

-- the same where the value is kept as it is
pub took_it : {A : Type 0} {f : Tok → Option A} {old new : Cursor} {r : A} → (h : Taken A A f (λ a p. a) old new r) → (s : List Item) (k : A → ℕ → List Item) → Waits f s k → (st : St) → on old s st ≡ on new (k r h.place) st
took_it {new = new} h s k w st = took h s k w st ∙ ap (λ a. on new (k a h.place) st) h.same

-- ---- symbols

-- a symbol that was passed was due
pub passes : {w : Symbol} {old new : Cursor} → Eaten w old new true → Passes (must w ∷ []) [] old new × (old.at < new.at)
passes {w} {old} {new} e =
    let some = symbol_some w (tok e.next.token) e.told in
    let lt : old.at < new.at = omega (arith, e.peeked.forward some, ap (λ (c : Cursor). c.at) e.moved) in
    (record { forward = omega arith; turns = λ s st. turn e.peeked some _ st s st (λ i. cond (e.told i) (moved s st) stuck) ∙ ap (λ c. on c s st) (sym e.moved) }, lt)

-- another cannot come
pub stops : {w : Symbol} (old new : Cursor) (e : Eaten w old new false) → Stops (must w ∷ []) old e.next.place
stops old new e = λ s st. fails e.peeked _ st (λ _. refl) (λ i. cond (e.told i) (moved s st) stuck)

pub expected : (w : Symbol) (old new : Cursor) (r : Result ℕ ℕ) → Stood w old new r → Expected w old new r
expected w old new (Ok p) e = passes e.0
expected w old new (Err p) e = λ s st. stops old new e.0 s st ∙ ap refused e.1

pub eaten : (w : Symbol) (old new : Cursor) (r : Result ℕ ℕ) → Stood w old new r → Eaten w old new (is_ok r)
eaten w old new (Ok p) e = e.0
eaten w old new (Err p) e = e.0

-- only the end of the text may follow a query
pub no_end : {bs : List ℕ} {at : ℕ} {r : Lexed} → Peeked bs at r → (r.token ≡ token.End → ⊥) → (js : List Binding) (st : St) → from_byte bs at (ends js ∷ []) st ≡ refused r.place
no_end {bs} {at} {r} p n js st = arm_on r.token refl
  where
    arm_on : (t : Token) → r.token ≡ t → from_byte bs at (ends js ∷ []) st ≡ refused r.place
    arm_on (token.Word w) e = arm p (ap tok e) _ st
    arm_on (token.Variable w) e = arm p (ap tok e) _ st
    arm_on (token.Numeral w m) e = arm p (ap tok e) _ st
    arm_on (token.Symbol s) e = arm p (ap tok e) _ st
    arm_on token.Bad e = arm p (ap tok e) _ st
    arm_on token.End e = absurd (n e)

-- ---- what a symbol does, or its want

-- it was passed
pub ate : {w : Symbol} {old new : Cursor} (e : Eaten w old new true) (s : List Item) (st : St) (s' : List Item) → pops build s st (symbol w) e.next.place ≡ moved s' st → on old s st ≡ on new s' st
ate {w} e s st s' h =
    turn e.peeked (symbol_some w (tok e.next.token) e.told) s st s' st (ap (λ t. pops build s st t e.next.place) (symbol_is w (tok e.next.token) e.told) ∙ h)
    ∙ ap (λ c. on c s' st) (sym e.moved)

-- something else comes, on which another stack does the same
pub left : {w : Symbol} (old new : Cursor) (e : Eaten w old new false) (s : List Item) (st : St) (s' : List Item) → ((q : ℕ) → finish build s st q ≡ finish build s' st q) → pops build s st (tok e.next.token) e.next.place ≡ pops build s' st (tok e.next.token) e.next.place → on old s st ≡ on new s' st
left old new e s st s' f h = alike e.peeked s st s' st f h ∙ ap (λ c. on c s' st) (sym e.moved)
