-- What symbols are for: operators with their levels, what may begin an operand, and signs of condense forms.
use Rattle.std.specs.Prelude.{ℕ, Bool, true, false, cond, Some, None, Option, ◌==◌, nat_lt}
use Rattle.syntax.specs.Tree.{Word}
use Rattle.syntax.specs.declared.Unary.TheVariants as unary
use Rattle.syntax.specs.declared.Binary.{Binary}
use Rattle.syntax.specs.declared.Binary.TheVariants.{Numbers, Compares, Truths, Overlay}
use Rattle.syntax.specs.declared.Arithmetic.TheVariants as arithmetic
use Rattle.syntax.specs.declared.Comparison.TheVariants as comparison
use Rattle.syntax.specs.declared.Logic.TheVariants as logic
use Rattle.syntax.specs.declared.Fold.{Fold}
use Rattle.syntax.specs.declared.Fold.TheVariants.{Sum, Least, Greatest, Every, Any}
use Rattle.syntax.specs.declared.Reduce.TheVariants.{Whole, Count}
use Rattle.lexer.specs.declared.symbol.Symbol.{Symbol}
use Rattle.lexer.specs.declared.symbol.Symbol.TheVariants as symbol
use Rattle.lexer.specs.Symbols.{same_symbol}
use Rattle.lexer.specs.Tokens.{Tok, word, variable, numeral, bad, end}
use Rattle.lexer.specs.Tokens as tokens
use Rattle.parser.specs.declared.roles.Operator.{Operator}
use Rattle.parser.specs.declared.roles.Function.TheVariants as function
use Rattle.parser.specs.declared.roles.Opening.{Opening}
use Rattle.parser.specs.declared.roles.Opening.TheVariants.{Round, Truth, Prefix, Function}

abbrev pub ranked : ℕ → Binary → Operator
ranked n o = record { level = n; binary = o }

-- the operators by level, the tightest first: `* /`; `+ -`; comparisons; `and`; `or xor`; `overlay`
abbrev pub operator : Symbol → Option Operator
operator s =
    cond (same_symbol s symbol.Star) (Some (ranked 0 (Numbers arithmetic.Multiply)))
    (cond (same_symbol s symbol.Slash) (Some (ranked 0 (Numbers arithmetic.Divide)))
    (cond (same_symbol s symbol.Plus) (Some (ranked 1 (Numbers arithmetic.Plus)))
    (cond (same_symbol s symbol.Minus) (Some (ranked 1 (Numbers arithmetic.Subtract)))
    (cond (same_symbol s symbol.Equal) (Some (ranked 2 (Compares comparison.Equal)))
    (cond (same_symbol s symbol.Unequal) (Some (ranked 2 (Compares comparison.Unequal)))
    (cond (same_symbol s symbol.Less) (Some (ranked 2 (Compares comparison.Less)))
    (cond (same_symbol s symbol.AtMost) (Some (ranked 2 (Compares comparison.AtMost)))
    (cond (same_symbol s symbol.Greater) (Some (ranked 2 (Compares comparison.Greater)))
    (cond (same_symbol s symbol.AtLeast) (Some (ranked 2 (Compares comparison.AtLeast)))
    (cond (same_symbol s symbol.And) (Some (ranked 3 (Truths logic.And)))
    (cond (same_symbol s symbol.Or) (Some (ranked 4 (Truths logic.Or)))
    (cond (same_symbol s symbol.Xor) (Some (ranked 4 (Truths logic.Xor)))
    (cond (same_symbol s symbol.Overlay) (Some (ranked 5 Overlay))
    None)))))))))))))

-- what begins an operand besides numerals and names
abbrev pub opening : Symbol → Option Opening
opening s =
    cond (same_symbol s symbol.Open) (Some Round)
    (cond (same_symbol s symbol.True) (Some (Truth true))
    (cond (same_symbol s symbol.False) (Some (Truth false))
    (cond (same_symbol s symbol.Minus) (Some (Prefix unary.Minus))
    (cond (same_symbol s symbol.Not) (Some (Prefix unary.Not))
    (cond (same_symbol s symbol.Abs) (Some (Function function.Abs))
    (cond (same_symbol s symbol.Add) (Some (Function (function.Over (Whole Sum))))
    (cond (same_symbol s symbol.Min) (Some (Function (function.Over (Whole Least))))
    (cond (same_symbol s symbol.Max) (Some (Function (function.Over (Whole Greatest))))
    (cond (same_symbol s symbol.Count) (Some (Function (function.Over Count)))
    (cond (same_symbol s symbol.SomeOf) (Some (Function (function.Over (Whole Any))))
    (cond (same_symbol s symbol.AllOf) (Some (Function (function.Over (Whole Every))))
    None)))))))))))

-- how a condense form gathers: `+ min max and or`
abbrev pub folding : Symbol → Option Fold
folding s =
    cond (same_symbol s symbol.Plus) (Some Sum)
    (cond (same_symbol s symbol.Min) (Some Least)
    (cond (same_symbol s symbol.Max) (Some Greatest)
    (cond (same_symbol s symbol.And) (Some Every)
    (cond (same_symbol s symbol.Or) (Some Any)
    None))))

-- the same of a token
abbrev pub fold_of : Tok → Option Fold
fold_of (word w) = None
fold_of (variable w) = None
fold_of (numeral n) = None
fold_of (tokens.symbol s) = folding s
fold_of bad = None
fold_of end = None

-- an operator, if it is of level n
abbrev pub of_level : ℕ → Option Operator → Option Binary
of_level n (Some o) = cond (o.level == n) (Some o.binary) None
of_level n None = None

abbrev pub operator_of : Tok → Option Operator
operator_of (word w) = None
operator_of (variable w) = None
operator_of (numeral n) = None
operator_of (tokens.symbol s) = operator s
operator_of bad = None
operator_of end = None

-- an operator, if its level is at least n and below m
abbrev pub between : ℕ → ℕ → Option Operator → Option Operator
between n m (Some o) = cond (nat_lt o.level n) None (cond (nat_lt o.level m) (Some o) None)
between n m None = None

-- the operator of level n that a token is
abbrev pub join_of : ℕ → Tok → Option Binary
join_of n t = of_level n (operator_of t)

-- the token is the symbol
abbrev pub is : Symbol → Tok → Bool
is s (word w) = false
is s (variable w) = false
is s (numeral n) = false
is s (tokens.symbol u) = same_symbol u s
is s bad = false
is s end = false

-- a numeral's number; a word; a `$` word
abbrev pub number_of : Tok → Option ℕ
number_of (word w) = None
number_of (variable w) = None
number_of (numeral n) = Some n
number_of (tokens.symbol s) = None
number_of bad = None
number_of end = None

abbrev pub word_of : Tok → Option Word
word_of (word w) = Some w
word_of (variable w) = None
word_of (numeral n) = None
word_of (tokens.symbol s) = None
word_of bad = None
word_of end = None

abbrev pub variable_of : Tok → Option Word
variable_of (word w) = None
variable_of (variable w) = Some w
variable_of (numeral n) = None
variable_of (tokens.symbol s) = None
variable_of bad = None
variable_of end = None

-- what a token begins where an operand is due, besides numerals and names
abbrev pub opening_of : Tok → Option Opening
opening_of (word w) = None
opening_of (variable w) = None
opening_of (numeral n) = None
opening_of (tokens.symbol s) = opening s
opening_of bad = None
opening_of end = None
