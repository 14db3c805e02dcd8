-- Which token begins where.
use Rattle.std.specs.Prelude.{ℕ, ◌+◌, ◌-◌, Bool, cond, ◌&&◌, ◌||◌, List, length, take, drop, codes, ◌==◌, nat_le, nat_lt, slice_index}
use Rattle.std.specs.Str.{bytes_eq}
use Rattle.lexer.specs.Bytes.{letter, digit, blank, part, run}
use Rattle.lexer.specs.Numerals.{decimal}
use Rattle.lexer.specs.Reserved.{word_token}
use Rattle.lexer.specs.Tokens.{Tok, variable, numeral, symbol, bad, end, Seen, seen}
use Rattle.lexer.specs.declared.symbol.Symbol.TheVariants.{Rows, Open, Close, OpenSquare, CloseSquare, Comma, Colon, Plus, Minus, Star, Slash, Equal, Unequal, Less, AtMost, Greater, AtLeast}

-- n bytes from s on
abbrev pub cut : List ℕ → ℕ → ℕ → List ℕ
cut bs s n = take n (drop s bs)

-- n bytes that begin with a letter, at s: over 16 are no token
abbrev pub word_of : List ℕ → ℕ → ℕ → Seen
word_of bs s n = cond (nat_lt 16 n) (seen bad s (s + n)) (seen (word_token (cut bs s n)) s (s + n))

-- a word takes all letters, digits and underscores that follow
abbrev pub word_at : List ℕ → ℕ → Seen
word_at bs s = word_of bs s (run part bs s)

-- the same after a `$` at s; the `$` does not count, and its place is the token's
abbrev pub variable_of : List ℕ → ℕ → ℕ → Seen
variable_of bs s n = cond (nat_lt 16 n) (seen bad s (s + 1 + n)) (seen (variable (cut bs (s + 1) n)) s (s + 1 + n))

abbrev pub variable_at : List ℕ → ℕ → Seen
variable_at bs s =
    cond (nat_lt (s + 1) (length bs) && letter (slice_index bs (s + 1))) (variable_of bs s (run part bs (s + 1))) (seen bad s (s + 1))

-- n digits at s: over 2,147,483,647 they are no token
abbrev pub numeral_of : List ℕ → ℕ → ℕ → Seen
numeral_of bs s n = cond (nat_le (decimal 0 (cut bs s n)) 2147483647) (seen (numeral (decimal 0 (cut bs s n))) s (s + n)) (seen bad s (s + n))

abbrev pub numeral_at : List ℕ → ℕ → Seen
numeral_at bs s = numeral_of bs s (run digit bs s)

-- the six bytes "rows", with their quotes
abbrev pub rows_at : List ℕ → ℕ → Seen
rows_at bs s = cond (nat_le 6 (length bs - s) && bytes_eq (cut bs s 6) (codes "\"rows\"")) (seen (symbol Rows) s (s + 6)) (seen bad s (s + 1))

-- a mark of one byte
abbrev pub mark_token : ℕ → Tok
mark_token b =
    cond (b == 40) (symbol Open)
    (cond (b == 41) (symbol Close)
    (cond (b == 91) (symbol OpenSquare)
    (cond (b == 93) (symbol CloseSquare)
    (cond (b == 44) (symbol Comma)
    (cond (b == 58) (symbol Colon)
    (cond (b == 43) (symbol Plus)
    (cond (b == 45) (symbol Minus)
    (cond (b == 42) (symbol Star)
    (cond (b == 47) (symbol Slash)
    (cond (b == 61) (symbol Equal)
    (cond (b == 60) (symbol Less)
    (cond (b == 62) (symbol Greater)
    bad))))))))))))

-- a mark of two bytes, by its first
abbrev pub pair_token : ℕ → Tok
pair_token b =
    cond (b == 33) (symbol Unequal)
    (cond (b == 60) (symbol AtMost)
    (cond (b == 62) (symbol AtLeast)
    bad))

-- `!=`, `<=` and `>=` before the marks of one byte
abbrev pub paired : List ℕ → ℕ → Bool
paired bs s = (slice_index bs s == 33 || slice_index bs s == 60 || slice_index bs s == 62) && (nat_lt (s + 1) (length bs) && slice_index bs (s + 1) == 61)

abbrev pub mark_at : List ℕ → ℕ → Seen
mark_at bs s = cond (paired bs s) (seen (pair_token (slice_index bs s)) s (s + 2)) (seen (mark_token (slice_index bs s)) s (s + 1))

-- the token that begins at s, by its first byte
abbrev pub token_at : List ℕ → ℕ → Seen
token_at bs s =
    cond (nat_le (length bs) s) (seen end s s)
    (cond (letter (slice_index bs s)) (word_at bs s)
    (cond (digit (slice_index bs s)) (numeral_at bs s)
    (cond (slice_index bs s == 36) (variable_at bs s)
    (cond (slice_index bs s == 34) (rows_at bs s)
    (mark_at bs s)))))

-- the token at or after a byte: separators are left out
abbrev pub lexed : List ℕ → ℕ → Seen
lexed bs at = token_at bs (at + run blank bs at)
