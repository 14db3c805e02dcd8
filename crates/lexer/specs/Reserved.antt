-- The reserved words. All other words are names: `x`, `y` and `t` too.
use Rattle.std.specs.Prelude.{ℕ, cond, List, Some, None, codes, Option}
use Rattle.std.specs.Str.{bytes_eq}
use Rattle.lexer.specs.declared.symbol.Symbol.{Symbol}
use Rattle.lexer.specs.declared.symbol.Symbol.TheVariants.{For, In, Return, Encode, RowsWord, Condense, Coverage, Over, Where, Using, Values, Overlay, Or, Xor, And, Not, True, False, Abs, Add, Min, Max, Count, SomeOf, AllOf}
use Rattle.lexer.specs.Tokens.{Tok, symbol, word}

-- the words that hold a query's clauses together; the bare word `rows` is reserved and stands nowhere
abbrev pub clause_word : List ℕ → Option Symbol
clause_word w =
    cond (bytes_eq w (codes "for")) (Some For)
    (cond (bytes_eq w (codes "in")) (Some In)
    (cond (bytes_eq w (codes "return")) (Some Return)
    (cond (bytes_eq w (codes "encode")) (Some Encode)
    (cond (bytes_eq w (codes "rows")) (Some RowsWord)
    (cond (bytes_eq w (codes "condense")) (Some Condense)
    (cond (bytes_eq w (codes "coverage")) (Some Coverage)
    (cond (bytes_eq w (codes "over")) (Some Over)
    (cond (bytes_eq w (codes "where")) (Some Where)
    (cond (bytes_eq w (codes "using")) (Some Using)
    (cond (bytes_eq w (codes "values")) (Some Values)
    None))))))))))

-- the words that are operators
abbrev pub operator_word : List ℕ → Option Symbol
operator_word w =
    cond (bytes_eq w (codes "overlay")) (Some Overlay)
    (cond (bytes_eq w (codes "or")) (Some Or)
    (cond (bytes_eq w (codes "xor")) (Some Xor)
    (cond (bytes_eq w (codes "and")) (Some And)
    (cond (bytes_eq w (codes "not")) (Some Not)
    None))))

-- the truth words and the functions
abbrev pub function_word : List ℕ → Option Symbol
function_word w =
    cond (bytes_eq w (codes "true")) (Some True)
    (cond (bytes_eq w (codes "false")) (Some False)
    (cond (bytes_eq w (codes "abs")) (Some Abs)
    (cond (bytes_eq w (codes "add")) (Some Add)
    (cond (bytes_eq w (codes "min")) (Some Min)
    (cond (bytes_eq w (codes "max")) (Some Max)
    (cond (bytes_eq w (codes "count")) (Some Count)
    (cond (bytes_eq w (codes "some")) (Some SomeOf)
    (cond (bytes_eq w (codes "all")) (Some AllOf)
    None))))))))

-- the symbol if there is one, else what comes next
abbrev pub or_else : Option Symbol → Tok → Tok
or_else (Some s) t = symbol s
or_else None t = t

-- a reserved word is its symbol, another is a word
abbrev pub word_token : List ℕ → Tok
word_token w = or_else (clause_word w) (or_else (operator_word w) (or_else (function_word w) (word w)))
