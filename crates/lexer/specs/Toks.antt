-- The tokens of a text from a byte on, each with its place.
use Rattle.std.specs.Prelude.{◌≡◌, ℕ, zero, suc, ◌-◌, ◌<◌, ◌≤◌, Bool, true, false, cond, List, [], ◌∷◌, length, Some, None, Option}
use Rattle.lexer.specs.Tokens.{Tok, word, variable, numeral, symbol, bad, end, Seen, seen, tok}
use Rattle.lexer.specs.Lexing.{lexed}
use Rattle.lexer.specs.declared.token.Lexed.{Lexed}

-- a token and its place
abbrev pub Placed : Type 0
Placed = Tok × ℕ

abbrev pub is_end : Tok → Bool
is_end (word w) = false
is_end (variable w) = false
is_end (numeral n) = false
is_end (symbol s) = false
is_end bad = false
is_end end = true

abbrev pub is_bad : Tok → Bool
is_bad (word w) = false
is_bad (variable w) = false
is_bad (numeral n) = false
is_bad (symbol s) = false
is_bad bad = true
is_bad end = false

abbrev pub consed : Tok → ℕ → List Placed → List Placed
consed t s ts = cond (is_end t) [] ((t, s) ∷ ts)

abbrev pub listed : (ℕ → List Placed) → Seen → List Placed
listed more (seen t s n) = consed t s (more n)

-- k bounds how many tokens there are
unfoldable pub toks_by : ℕ → List ℕ → ℕ → List Placed
toks_by zero bs at = []
toks_by (suc k) bs at = listed (λ n. toks_by k bs n) (lexed bs at)

-- the tokens from a byte on: no more than there are bytes
unfoldable pub toks : List ℕ → ℕ → List Placed
toks bs at = toks_by (suc (length bs - at)) bs at

-- the next token, said of the list of tokens
pub record Peeked (bs : List ℕ) (at : ℕ) (r : Lexed) : Type 0 where
  pub text : r.next.text.now ≡ bs
  pub tokens : toks bs at ≡ consed (tok r.token) r.place (toks bs r.next.at)
  pub after : at ≤ r.next.at
  pub within : r.next.at ≤ length bs
  pub forward : is_end (tok r.token) ≡ false → at < r.next.at
  pub begins : is_end (tok r.token) ≡ false → r.place < r.next.at
  pub ends : is_end (tok r.token) ≡ true → r.place ≡ length bs

-- the place of the first that is no token
abbrev pub first_bad : List Placed → Option ℕ
first_bad [] = None
first_bad (x ∷ ts) = cond (is_bad x.0) (Some x.1) (first_bad ts)
