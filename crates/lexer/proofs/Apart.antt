-- Symbols that are not equal have other numbers, and `==` tells them apart as the numbers do.
use Rattle.std.proofs.Common.{◌≡◌, ℕ, true, false, cond, eqb, sym, refl, ap, ◌∙◌}
use Rattle.std.proofs.lemmas.Bool.{ne_eqb, eqb-true}
use denote.Enum.Declared.{tag_of}
use Rattle.lexer.specs.Symbols.{number, same_symbol}
use Rattle.lexer.specs.contracts.symbol.Symbol.{the_type}
use Rattle.lexer.specs.contracts.symbol.SymbolPartialEq.TheImpl.{ghosts}
use Rattle.lexer.specs.declared.symbol.Symbol.{Symbol}
use Rattle.lexer.specs.declared.symbol.Symbol.TheVariants.{For, In, Return, Encode, RowsWord, Condense, Coverage, Over, Where, Using, Values, Overlay, Or, Xor, And, Not, True, False, Abs, Add, Min, Max, Count, SomeOf, AllOf, Rows, Open, Close, OpenSquare, CloseSquare, Comma, Colon, Plus, Minus, Star, Slash, Equal, Unequal, Less, AtMost, Greater, AtLeast}

-- the symbol that has the number k, or s
abbrev pub numbered : Symbol → ℕ → Symbol
numbered s k = (cond (eqb k 0) For (cond (eqb k 1) In (cond (eqb k 2) Return (cond (eqb k 3) Encode (cond (eqb k 4) RowsWord (cond (eqb k 5) Condense (cond (eqb k 6) Coverage (cond (eqb k 7) Over (cond (eqb k 8) Where (cond (eqb k 9) Using (cond (eqb k 10) Values (cond (eqb k 11) Overlay (cond (eqb k 12) Or (cond (eqb k 13) Xor (cond (eqb k 14) And (cond (eqb k 15) Not (cond (eqb k 16) True (cond (eqb k 17) False (cond (eqb k 18) Abs (cond (eqb k 19) Add (cond (eqb k 20) Min (cond (eqb k 21) Max (cond (eqb k 22) Count (cond (eqb k 23) SomeOf (cond (eqb k 24) AllOf (cond (eqb k 25) Rows (cond (eqb k 26) Open (cond (eqb k 27) Close (cond (eqb k 28) OpenSquare (cond (eqb k 29) CloseSquare (cond (eqb k 30) Comma (cond (eqb k 31) Colon (cond (eqb k 32) Plus (cond (eqb k 33) Minus (cond (eqb k 34) Star (cond (eqb k 35) Slash (cond (eqb k 36) Equal (cond (eqb k 37) Unequal (cond (eqb k 38) Less (cond (eqb k 39) AtMost (cond (eqb k 40) Greater (cond (eqb k 41) AtLeast s))))))))))))))))))))))))))))))))))))))))))

known : (s d : Symbol) → s ≡ numbered d (number s)
known For d = refl
known In d = refl
known Return d = refl
known Encode d = refl
known RowsWord d = refl
known Condense d = refl
known Coverage d = refl
known Over d = refl
known Where d = refl
known Using d = refl
known Values d = refl
known Overlay d = refl
known Or d = refl
known Xor d = refl
known And d = refl
known Not d = refl
known True d = refl
known False d = refl
known Abs d = refl
known Add d = refl
known Min d = refl
known Max d = refl
known Count d = refl
known SomeOf d = refl
known AllOf d = refl
known Rows d = refl
known Open d = refl
known Close d = refl
known OpenSquare d = refl
known CloseSquare d = refl
known Comma d = refl
known Colon d = refl
known Plus d = refl
known Minus d = refl
known Star d = refl
known Slash d = refl
known Equal d = refl
known Unequal d = refl
known Less d = refl
known AtMost d = refl
known Greater d = refl
known AtLeast d = refl

pub alike : (a b : Symbol) → number a ≡ number b → a ≡ b
alike a b e = known a a ∙ ap (numbered a) e ∙ sym (known b a)

pub apart : (a b : Symbol) → (a ≡ b → ⊥) → same_symbol a b ≡ false
apart a b h = ne_eqb _ _ (λ e. h (alike a b e))

-- the same symbol by the test is the same symbol
pub same_symbol_lem : (a b : Symbol) → same_symbol a b ≡ true → a ≡ b
same_symbol_lem a b e = alike a b (eqb-true (number a) (number b) e)

tagged : (s : Symbol) → tag_of the_type s ≡ number s
tagged For = refl
tagged In = refl
tagged Return = refl
tagged Encode = refl
tagged RowsWord = refl
tagged Condense = refl
tagged Coverage = refl
tagged Over = refl
tagged Where = refl
tagged Using = refl
tagged Values = refl
tagged Overlay = refl
tagged Or = refl
tagged Xor = refl
tagged And = refl
tagged Not = refl
tagged True = refl
tagged False = refl
tagged Abs = refl
tagged Add = refl
tagged Min = refl
tagged Max = refl
tagged Count = refl
tagged SomeOf = refl
tagged AllOf = refl
tagged Rows = refl
tagged Open = refl
tagged Close = refl
tagged OpenSquare = refl
tagged CloseSquare = refl
tagged Comma = refl
tagged Colon = refl
tagged Plus = refl
tagged Minus = refl
tagged Star = refl
tagged Slash = refl
tagged Equal = refl
tagged Unequal = refl
tagged Less = refl
tagged AtMost = refl
tagged Greater = refl
tagged AtLeast = refl

-- what `==` of symbols answers
pub equals : (a b : Symbol) → ghosts.eq a b ≡ same_symbol a b
equals a b = λ i. eqb (tagged a i) (tagged b i)
