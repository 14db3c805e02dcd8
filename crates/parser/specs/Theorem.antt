-- What the answer to a text means in the grammar.
use Rattle.std.specs.Prelude.{◌≡◌, ℕ, ◌<◌, ◌≤◌, Bool, true, false, ◌⊎◌, List, [], ◌∷◌, ◌++◌, length, Some, None, Ok, Err, Result}
use Rattle.lexer.specs.Toks.{Placed, toks, first_bad}
use Rattle.parser.specs.declared.fault.TextFault.{TextFault}
use Rattle.parser.specs.declared.fault.TextFault.TheVariants.{TooLong, NoToken, NoQuery, TooLarge}
use Rattle.parser.specs.declared.text.Reading.{Reading}
use Rattle.parser.specs.Grammar.{Admits, Begins}

-- the token at p is the first with which no query begins
pub record FirstFault (ts : List Placed) (p : ℕ) : Type 0 where
  pub before : List Placed
  pub token : Placed
  pub after : List Placed
  pub split : ts ≡ before ++ token ∷ after
  pub place : token.1 ≡ p
  pub some : Begins before
  pub none : Begins (before ++ token ∷ []) → ⊥

-- the text ends early: some query begins with it, and it is none
pub record EndsEarly (len : ℕ) (ts : List Placed) (p : ℕ) : Type 0 where
  pub place : p ≡ len
  pub some : Begins ts
  pub not_yet : Admits ts → ⊥

-- the grammar refuses the text at p
abbrev pub Refusable : List ℕ → ℕ → Type 0
Refusable bs p = FirstFault (toks bs 0) p ⊎ EndsEarly (length bs) (toks bs 0) p

-- a text of at most 4,096 bytes that is all tokens
pub record Clean (bs : List ℕ) : Type 0 where
  pub short : length bs ≤ 4096
  pub tokens : first_bad (toks bs 0) ≡ None

-- what each answer says of the text
abbrev pub MeantBy : List ℕ → TextFault → Type 0
MeantBy bs TooLong = 4096 < length bs
MeantBy bs (NoToken p) = (length bs ≤ 4096) × (first_bad (toks bs 0) ≡ Some p)
MeantBy bs (NoQuery p) = Clean bs × Refusable bs p
MeantBy bs TooLarge = Clean bs × Admits (toks bs 0)

abbrev pub Meant : List ℕ → Result Reading TextFault → Type 0
Meant bs (Ok q) = Clean bs × Admits (toks bs 0)
Meant bs (Err f) = MeantBy bs f

-- the grammar admits the text, within the limits or not
abbrev pub grammatical : Result Reading TextFault → Bool
grammatical (Ok q) = true
grammatical (Err TooLong) = false
grammatical (Err (NoToken p)) = false
grammatical (Err (NoQuery p)) = false
grammatical (Err TooLarge) = true
