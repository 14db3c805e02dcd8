-- The symbols, told apart by number.
use Rattle.std.specs.Prelude.{ℕ, Bool, ◌==◌}
use Rattle.lexer.specs.declared.symbol.Symbol.{Symbol}
use Rattle.lexer.specs.declared.symbol.Symbol.TheVariants.{For, In, Return, Encode, RowsWord, Condense, Coverage, Over, Where, Using, Values, Overlay, Or, Xor, And, Not, True, False, Abs, Add, Min, Max, Count, SomeOf, AllOf, Rows, Open, Close, OpenSquare, CloseSquare, Comma, Colon, Plus, Minus, Star, Slash, Equal, Unequal, Less, AtMost, Greater, AtLeast}

-- a number for each symbol
abbrev pub number : Symbol → ℕ
number For = 0
number In = 1
number Return = 2
number Encode = 3
number RowsWord = 4
number Condense = 5
number Coverage = 6
number Over = 7
number Where = 8
number Using = 9
number Values = 10
number Overlay = 11
number Or = 12
number Xor = 13
number And = 14
number Not = 15
number True = 16
number False = 17
number Abs = 18
number Add = 19
number Min = 20
number Max = 21
number Count = 22
number SomeOf = 23
number AllOf = 24
number Rows = 25
number Open = 26
number Close = 27
number OpenSquare = 28
number CloseSquare = 29
number Comma = 30
number Colon = 31
number Plus = 32
number Minus = 33
number Star = 34
number Slash = 35
number Equal = 36
number Unequal = 37
number Less = 38
number AtMost = 39
number Greater = 40
number AtLeast = 41

-- they are the same symbol
abbrev pub same_symbol : Symbol → Symbol → Bool
same_symbol a b = number a == number b
