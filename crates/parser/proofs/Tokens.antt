-- Which token a reading says that it is.
use Rattle.std.proofs.Common.{◌≡◌, ℕ, suc, ◌<◌, Bool, true, false, cond, eqb, List, [], ◌∷◌, Some, None, Option, sym, refl, ap, ◌∙◌, arith}
use Rattle.std.proofs.lemmas.Bool.{eqb-true, false_from_ne_true, ne_eqb}
use Rattle.std.proofs.lemmas.Option.{none-some, same_Some}
use Rattle.syntax.specs.Tree.{Word}
use Rattle.syntax.specs.declared.Binary.{Binary}
use Rattle.lexer.specs.declared.symbol.Symbol.{Symbol}
use Rattle.lexer.specs.declared.symbol.Symbol.TheVariants as the
use Rattle.lexer.specs.Tokens.{Tok, word, variable, numeral, symbol, bad, end}
use Rattle.lexer.specs.Toks.{Placed}
use Rattle.parser.specs.declared.roles.Operator.{Operator}
use Rattle.parser.specs.Roles.{is, operator, operator_of, of_level, join_of, word_of, variable_of}
use Rattle.parser.specs.Grammar.{Is, Joins}
use Rattle.parser.proofs.See.{symbol_is}

pub word_is : (t : Tok) (w : Word) → word_of t ≡ Some w → t ≡ word w
word_is (word v) w e = ap word (same_Some v w e)
word_is (variable v) w e = absurd (none-some w e)
word_is (numeral n) w e = absurd (none-some w e)
word_is (symbol s) w e = absurd (none-some w e)
word_is bad w e = absurd (none-some w e)
word_is end w e = absurd (none-some w e)

pub variable_is : (t : Tok) (w : Word) → variable_of t ≡ Some w → t ≡ variable w
variable_is (word v) w e = absurd (none-some w e)
variable_is (variable v) w e = ap variable (same_Some v w e)
variable_is (numeral n) w e = absurd (none-some w e)
variable_is (symbol s) w e = absurd (none-some w e)
variable_is bad w e = absurd (none-some w e)
variable_is end w e = absurd (none-some w e)

-- a token that a reading takes is no symbol that it does not take
pub unlike : {A : Type 0} (f : Tok → Option A) (x : Symbol) (t : Tok) (a : A) → f t ≡ Some a → f (symbol x) ≡ None → is x t ≡ true → ⊥
unlike f x t a e n q = none-some a (sym n ∙ ap f (sym (symbol_is x t q)) ∙ e)

pub off : {A : Type 0} (f : Tok → Option A) (x : Symbol) (t : Tok) (a : A) → f t ≡ Some a → f (symbol x) ≡ None → is x t ≡ false
off f x t a e n = false_from_ne_true (is x t) (unlike f x t a e n)

-- two symbols
pub two_symbols : (x y : Symbol) (t : Tok) → is y (symbol x) ≡ false → is x t ≡ true → is y t ≡ false
two_symbols x y t n e = ap (is y) (symbol_is x t e) ∙ n

-- an operator and its level
pub joined_at : (n : ℕ) (x : Option Operator) (o : Binary) → of_level n x ≡ Some o → (p : Operator) × (x ≡ Some p) × (p.level ≡ n)
joined_at n None o e = absurd (none-some o e)
joined_at n (Some p) o e = cases (eqb p.level n) refl
  where
    cases : (b : Bool) → eqb p.level n ≡ b → (q : Operator) × (Some p ≡ Some q) × (q.level ≡ n)
    cases true q = (p, refl, eqb-true p.level n q)
    cases false q = absurd (none-some o (sym (λ i. cond (q i) (Some p.binary) None) ∙ e))

pub other_level : (k n : ℕ) (x : Option Operator) (o : Binary) → of_level n x ≡ Some o → k < n → of_level k x ≡ None
other_level k n x o e h =
    let p = joined_at n x o e in
    let q : eqb p.0.level k ≡ false = ne_eqb p.0.level k (λ z. absurd (omega (arith, p.2))) in
    ap (of_level k) p.1 ∙ (λ i. cond (q i) (Some p.0.binary) None)

-- ---- what may follow

-- no square bracket and no operator of a level below n comes next
abbrev pub Free : ℕ → List Placed → Type 0
Free n [] = Unit {0}
Free n (t ∷ ts) = (is the.OpenSquare t.0 ≡ false) × ((k : ℕ) → k < n → join_of k t.0 ≡ None)

pub free_symbol : (n : ℕ) (x : Symbol) (t : Placed) (ts : List Placed) → is the.OpenSquare (symbol x) ≡ false → operator x ≡ None → Is x t → Free n (t ∷ ts)
free_symbol n x t ts a b e = (two_symbols x the.OpenSquare t.0 a e, λ k h. ap (join_of k) (symbol_is x t.0 e) ∙ ap (of_level k) b)

pub free_joins : (n : ℕ) (o : Binary) (t : Placed) (ts : List Placed) → Joins n o t → Free n (t ∷ ts)
free_joins n o t ts j =
    let p = joined_at n (operator_of t.0) o j in
    (off operator_of the.OpenSquare t.0 p.0 p.1 refl, λ k h. other_level k n (operator_of t.0) o j h)

pub free_less : (n : ℕ) (ts : List Placed) → Free (suc n) ts → Free n ts
free_less n [] f = tt
free_less n (t ∷ ts) f = (f.0, λ k h. f.1 k (omega arith))

pub free_none : (n : ℕ) (ts : List Placed) → Free n ts → Free 0 ts
free_none n [] f = tt
free_none n (t ∷ ts) f = (f.0, λ k h. absurd (omega arith))
