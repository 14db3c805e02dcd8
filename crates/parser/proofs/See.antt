-- What the next token makes of a stack.
use Rattle.std.proofs.Common.{◌≡◌, ℕ, ◌<◌, Bool, true, false, cond, List, [], ◌∷◌, length, Some, sym, refl, ap, ◌∙◌}
use Rattle.std.proofs.lemmas.Bool.{false≢true}
use Rattle.std.proofs.lemmas.Option.{none-some, same_Some}
use Rattle.lexer.proofs.Apart as apart
use Rattle.lexer.proofs.Apart.{same_symbol_lem}
use Rattle.lexer.specs.contracts.token.TokenPartialEq.TheImpl.{ghosts}
use Rattle.lexer.specs.declared.token.Token.{Token}
use Rattle.lexer.specs.declared.token.Token.TheVariants as token
use Rattle.lexer.specs.declared.symbol.Symbol.{Symbol}
use Rattle.lexer.specs.Tokens.{Tok, tok, word, variable, numeral, symbol, bad, end}
use Rattle.lexer.specs.Toks.{Placed, toks, consed, is_end, Peeked}
use Rattle.lexer.specs.declared.token.Lexed.{Lexed}
use Rattle.parser.specs.Roles.{is, number_of}
use Rattle.parser.specs.Actions.{Action, St, build}
use Rattle.parser.specs.Machine.{Item, stuck, moved, pops, finish, onward, Verdict, refused, verdict, acts}
use Rattle.parser.specs.Reads.{on}
use Rattle.cursor.specs.declared.cursor.Cursor.{Cursor}

-- what comes of a stack and a state from a byte on
abbrev pub from_byte : List ℕ → ℕ → List Item → St → Verdict St
from_byte bs at s st = verdict build (length bs) s st (toks bs at)

abbrev pub Looked : List Item → St → Tok → ℕ → Cursor → Verdict St
Looked s st t p next = cond (is_end t) (finish build s st p) (onward (λ s' st'. on next s' st') p (pops build s st t p))

at_consed : (len : ℕ) (s : List Item) (st : St) (t : Tok) (p : ℕ) (ts : List Placed) (b : Bool) → is_end t ≡ b → (b ≡ true → p ≡ len) → verdict build len s st (consed t p ts) ≡ cond (is_end t) (finish build s st p) (onward (λ s' st'. verdict build len s' st' ts) p (pops build s st t p))
unfolding verdict
at_consed len s st t p ts true e h = rw e (ap (finish build s st) (sym (h refl)))
at_consed len s st t p ts false e h = rw e refl

pub see : {bs : List ℕ} {at : ℕ} {r : Lexed} → Peeked bs at r → (s : List Item) (st : St) → from_byte bs at s st ≡ Looked s st (tok r.token) r.place r.next
see {bs} {at} {r} p s st =
    ap (verdict build (length bs) s st) p.tokens
    ∙ at_consed (length bs) s st (tok r.token) r.place (toks bs r.next.at) (is_end (tok r.token)) refl p.ends
    ∙ (λ i. cond (is_end (tok r.token)) (finish build s st r.place) (onward (λ s' st'. from_byte (sym p.text i) r.next.at s' st') r.place (pops build s st (tok r.token) r.place)))

-- the same where the token is known
pub arm : {bs : List ℕ} {at : ℕ} {r : Lexed} → Peeked bs at r → {u : Tok} → tok r.token ≡ u → (s : List Item) (st : St) → from_byte bs at s st ≡ Looked s st u r.place r.next
arm {bs} {at} {r} p e s st = see p s st ∙ ap (λ t. Looked s st t r.place r.next) e

-- the same where the place after it has another name
pub arm_to : {bs : List ℕ} {at : ℕ} {r : Lexed} → Peeked bs at r → {u : Tok} → tok r.token ≡ u → (s : List Item) (st : St) {new : Cursor} → new ≡ r.next → from_byte bs at s st ≡ Looked s st u r.place new
arm_to {r = r} p {u} e s st m = arm p e s st ∙ ap (Looked s st u r.place) (sym m)

pub beyond : {bs : List ℕ} {at : ℕ} {r : Lexed} → Peeked bs at r → {u : Tok} → tok r.token ≡ u → is_end u ≡ false → at < r.next.at
beyond p e f = p.forward (ap is_end e ∙ f)

-- a token on which the stack moves
pub turn : {bs : List ℕ} {at : ℕ} {r : Lexed} → Peeked bs at r → is_end (tok r.token) ≡ false → (s : List Item) (st : St) (s' : List Item) (st' : St) → pops build s st (tok r.token) r.place ≡ moved s' st' → from_byte bs at s st ≡ on r.next s' st'
turn {r = r} p f s st s' st' e =
    see p s st ∙ (λ i. cond (f i) (finish build s st r.place) (onward (λ a b. on r.next a b) r.place (e i)))

both : {A : Type 0} (b : Bool) {x y z : A} → x ≡ z → y ≡ z → cond b x y ≡ z
both true p q = p
both false p q = q

-- nothing that may come
pub fails : {bs : List ℕ} {at : ℕ} {r : Lexed} → Peeked bs at r → (s : List Item) (st : St) → ((q : ℕ) → finish build s st q ≡ refused q) → pops build s st (tok r.token) r.place ≡ stuck → from_byte bs at s st ≡ refused r.place
fails {r = r} p s st f e =
    see p s st ∙ both (is_end (tok r.token)) (f r.place) (ap (onward (λ s' st'. on r.next s' st') r.place) e)

-- two stacks that do the same
pub alike : {bs : List ℕ} {at : ℕ} {r : Lexed} → Peeked bs at r → (s : List Item) (st : St) (s' : List Item) (st' : St) → ((q : ℕ) → finish build s st q ≡ finish build s' st' q) → pops build s st (tok r.token) r.place ≡ pops build s' st' (tok r.token) r.place → from_byte bs at s st ≡ from_byte bs at s' st'
alike {r = r} p s st s' st' f e =
    see p s st ∙ (λ i. cond (is_end (tok r.token)) (f r.place i) (onward (λ a b. on r.next a b) r.place (e i))) ∙ sym (see p s' st')

-- stacks that do the same whatever comes
pub level : {S : Type 0} (act : Action → S → S) (len : ℕ) (s : List Item) (st : S) (s' : List Item) (st' : S) (ts : List Placed) → ((q : ℕ) → finish act s st q ≡ finish act s' st' q) → ((t : Tok) (p : ℕ) → pops act s st t p ≡ pops act s' st' t p) → verdict act len s st ts ≡ verdict act len s' st' ts
unfolding verdict
level act len s st s' st' [] f g = f len
level act len s st s' st' (t ∷ ts) f g = ap (onward (λ a b. verdict act len a b ts) t.1) (g t.0 t.1)

-- an action is done at once
pub done : {S : Type 0} (act : Action → S → S) (len : ℕ) (a : Action) (s : List Item) (st : S) (ts : List Placed) → verdict act len (acts a ∷ s) st ts ≡ verdict act len s (act a st) ts
done act len a s st ts = level act len _ st s _ ts (λ _. refl) (λ _ _. refl)

-- a symbol is not the end
pub symbol_some : (s : Symbol) (t : Tok) → is s t ≡ true → is_end t ≡ false
symbol_some s (word w) e = refl
symbol_some s (variable w) e = refl
symbol_some s (numeral n) e = refl
symbol_some s (symbol u) e = refl
symbol_some s bad e = refl
symbol_some s end e = absurd (false≢true e)

-- ---- which token it is

-- what `==` of a token and a symbol answers
pub equals : (t : Token) (s : Symbol) → ghosts.eq t (token.Symbol s) ≡ is s (tok t)
equals (token.Word w) s = refl
equals (token.Variable w) s = refl
equals (token.Numeral w n) s = refl
equals (token.Symbol u) s = apart.equals u s
equals token.Bad s = refl
equals token.End s = refl

pub symbol_is : (s : Symbol) (t : Tok) → is s t ≡ true → t ≡ symbol s
symbol_is s (word w) e = absurd (false≢true e)
symbol_is s (variable w) e = absurd (false≢true e)
symbol_is s (numeral n) e = absurd (false≢true e)
symbol_is s (symbol u) e = ap symbol (same_symbol_lem u s e)
symbol_is s bad e = absurd (false≢true e)
symbol_is s end e = absurd (false≢true e)

pub number_is : (t : Tok) (n : ℕ) → number_of t ≡ Some n → t ≡ numeral n
number_is (word w) n e = absurd (none-some n e)
number_is (variable w) n e = absurd (none-some n e)
number_is (numeral m) n e = ap numeral (same_Some m n e)
number_is (symbol u) n e = absurd (none-some n e)
number_is bad n e = absurd (none-some n e)
number_is end n e = absurd (none-some n e)
