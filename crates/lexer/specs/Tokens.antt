-- Tokens as the grammar sees them: by what they hold, and where they stand.
use Rattle.std.specs.Prelude.{ℕ, List}
use Rattle.lexer.specs.declared.symbol.Symbol.{Symbol}
use Rattle.lexer.specs.declared.token.Token.{Token}
use Rattle.lexer.specs.declared.token.Token.TheVariants as token
use Rattle.lexer.specs.declared.token.Lexed.{Lexed}

-- a word by its bytes, a `$` word by the bytes after the `$`, a numeral by its value
pub data Tok : Type 0 where
  word : List ℕ → Tok
  variable : List ℕ → Tok
  numeral : ℕ → Tok
  symbol : Symbol → Tok
  bad : Tok
  end : Tok

abbrev pub tok : Token → Tok
tok (token.Word w) = word w.now
tok (token.Variable w) = variable w.now
tok (token.Numeral w n) = numeral n
tok (token.Symbol s) = symbol s
tok token.Bad = bad
tok token.End = end

-- a token, the byte at which it begins, and the byte after it
pub data Seen : Type 0 where
  seen : Tok → ℕ → ℕ → Seen

abbrev pub view : Lexed → Seen
view l = seen (tok l.token) l.place l.next.at
