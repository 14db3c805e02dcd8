-- No expression reads past a numeral that a colon follows, with or without a minus before it.
use Rattle.std.proofs.Common.{◌≡◌, ℕ, Bool, true, false, List, ◌∷◌, Some, None, Option, sym, refl, ap, ◌∙◌, subst}
use Rattle.syntax.specs.declared.Unary.TheVariants as unary
use Rattle.syntax.specs.declared.Binary.{Binary}
use Rattle.parser.specs.declared.roles.Function.{Function}
use Rattle.std.proofs.lemmas.Bool.{true≢false}
use Rattle.std.proofs.lemmas.Option.{none-some}
use Rattle.lexer.specs.declared.symbol.Symbol.{Symbol}
use Rattle.lexer.specs.declared.symbol.Symbol.TheVariants as the
use Rattle.lexer.specs.Tokens.{Tok, numeral, symbol}
use Rattle.lexer.specs.Toks.{Placed}
use Rattle.parser.specs.declared.roles.Opening.{Opening}
use Rattle.parser.specs.declared.roles.Opening.TheVariants as opens
use Rattle.parser.specs.Axes.{axis_of}
use Rattle.parser.specs.Roles.{is, number_of, word_of, variable_of, operator_of, opening_of}
use Rattle.parser.specs.Yields.{Yield}
use Rattle.parser.specs.Grammar as gr
use Rattle.parser.specs.Grammar.{Is, Numeral, Opens, Sort, Gets}
use Rattle.parser.proofs.See.{number_is, symbol_is}
use Rattle.parser.proofs.Tokens.{unlike, joined_at, two_symbols}

pub first : (t u : Placed) (ts us : List Placed) → t ∷ ts ≡ u ∷ us → t ≡ u
first t u ts us e = cc

pub rest : (t u : Placed) (ts us : List Placed) → t ∷ ts ≡ u ∷ us → ts ≡ us
rest t u ts us e = cc

two : (b : Bool) → b ≡ true → b ≡ false → ⊥
two b p q = true≢false (sym p ∙ q)

-- a numeral is nothing else
num_symbol : (x : Symbol) (t u : Placed) (n : ℕ) → t ≡ u → Is x t → Numeral n u → ⊥
num_symbol x t u n e i j = unlike number_of x t.0 n (subst (Numeral n) (sym e) j) refl i

num_word : {A : Type 0} (f : Tok → Option A) (t u : Placed) (a : A) (n : ℕ) → ((m : ℕ) → f (numeral m) ≡ None) → t ≡ u → f t.0 ≡ Some a → Numeral n u → ⊥
num_word f t u a n h e i j = none-some a (sym (h n) ∙ ap f (sym (number_is t.0 n (subst (Numeral n) (sym e) j))) ∙ i)

num_opens : (o : Opening) (t u : Placed) (n : ℕ) → t ≡ u → Opens o t → Numeral n u → ⊥
num_opens o t u n e i j = num_word opening_of t u o n (λ _. refl) e i j

-- a colon joins nothing, and opens no bracket
colon_joins : (n : ℕ) {o : Binary} (t c : Placed) → t ≡ c → gr.Joins n o t → Is the.Colon c → ⊥
colon_joins n {o} t c e j i = let p = joined_at n (operator_of t.0) o j in unlike operator_of the.Colon t.0 p.0 p.1 refl (subst (Is the.Colon) (sym e) i)

colon_square : (t c : Placed) → t ≡ c → Is the.OpenSquare t → Is the.Colon c → ⊥
colon_square t c e i j = two (is the.OpenSquare t.0) i (two_symbols the.Colon the.OpenSquare t.0 refl (subst (Is the.Colon) (sym e) j))

colon_comma : (t c : Placed) → t ≡ c → Is the.Comma t → Is the.Colon c → ⊥
colon_comma t c e i j = two (is the.Comma t.0) i (two_symbols the.Colon the.Comma t.0 refl (subst (Is the.Colon) (sym e) j))

pub colon_left : {x : Sort} {y : Yield} {ts us : List Placed} → Gets x y ts us → (n : ℕ) (t c : Placed) (r : List Placed) → ts ≡ t ∷ c ∷ r → Numeral n t → Is the.Colon c → us ≡ c ∷ r
colon_left (gr.chain g) n t c r e i j = colon_left g n t c r e i j
colon_left (gr.condense a1 a2 a3 a4 a5 a6) n t c r e i j = absurd (num_symbol the.Condense _ t n (first _ _ _ _ e) a1 i)
colon_left (gr.condense_where a1 a2 a3 a4 a5 a6 a7 a8) n t c r e i j = absurd (num_symbol the.Condense _ t n (first _ _ _ _ e) a1 i)
colon_left (gr.coverage a1 a2 a3 a4 a5 a6) n t c r e i j = absurd (num_symbol the.Coverage _ t n (first _ _ _ _ e) a1 i)
colon_left (gr.tighter g) n t c r e i j = colon_left g n t c r e i j
colon_left (gr.joins {n = m} q g o h) n t c r e i j = absurd (colon_joins m _ c (first _ _ _ _ (colon_left g n t c r e i j)) o j)
colon_left (gr.compares g o h) n t c r e i j = absurd (colon_joins 2 _ c (first _ _ _ _ (colon_left g n t c r e i j)) o j)
colon_left (gr.prefix o g) n t c r e i j = absurd (num_opens _ _ t n (first _ _ _ _ e) o i)
colon_left (gr.plain g) n t c r e i j = colon_left g n t c r e i j
colon_left (gr.whole g) n t c r e i j = colon_left g n t c r e i j
colon_left (gr.bracket g o h z) n t c r e i j = absurd (colon_square _ c (first _ _ _ _ (colon_left g n t c r e i j)) o j)
colon_left (gr.number o) n t c r e i j = rest _ _ _ _ e
colon_left (gr.truth {b = b} o) n t c r e i j = absurd (num_opens _ _ t n (first _ _ _ _ e) o i)
colon_left (gr.name {w = w} o) n t c r e i j = absurd (num_word variable_of _ t w n (λ _. refl) (first _ _ _ _ e) o i)
colon_left (gr.iterator {w = w} o) n t c r e i j = absurd (num_word word_of _ t w n (λ _. refl) (first _ _ _ _ e) o i)
colon_left (gr.round o g z) n t c r e i j = absurd (num_opens _ _ t n (first _ _ _ _ e) o i)
colon_left (gr.function o p g z) n t c r e i j = absurd (num_opens _ _ t n (first _ _ _ _ e) o i)
colon_left (gr.last_entry g) n t c r e i j = colon_left g n t c r e i j
colon_left (gr.more_entries g o h) n t c r e i j = absurd (colon_comma _ c (first _ _ _ _ (colon_left g n t c r e i j)) o j)
colon_left (gr.trim {x = x} o g) n t c r e i j = absurd (num_word axis_of _ t x n (λ _. refl) (first _ _ _ _ e) o i)
colon_left (gr.slice {x = x} o p g z) n t c r e i j = absurd (num_word axis_of _ t x n (λ _. refl) (first _ _ _ _ e) o i)

-- a minus is nothing but a prefix
minus_symbol : (x : Symbol) (t u : Placed) → t ≡ u → is x (symbol the.Minus) ≡ false → Is x t → Is the.Minus u → ⊥
minus_symbol x t u e h i j = two (is x t.0) i (two_symbols the.Minus x t.0 h (subst (Is the.Minus) (sym e) j))

minus_word : {A : Type 0} (f : Tok → Option A) (t u : Placed) (a : A) → f (symbol the.Minus) ≡ None → t ≡ u → f t.0 ≡ Some a → Is the.Minus u → ⊥
minus_word f t u a h e i j = unlike f the.Minus t.0 a i h (subst (Is the.Minus) (sym e) j)

minus_opens : (o : Opening) (t u : Placed) → t ≡ u → Opens o t → (Some (opens.Prefix unary.Minus) ≡ Some o → ⊥) → Is the.Minus u → ⊥
minus_opens o t u e i h j = h (ap opening_of (sym (symbol_is the.Minus t.0 (subst (Is the.Minus) (sym e) j))) ∙ i)

truth_minus : (b : Bool) → Some (opens.Prefix unary.Minus) ≡ Some (opens.Truth b) → ⊥
truth_minus b e = cc

round_minus : Some (opens.Prefix unary.Minus) ≡ Some opens.Round → ⊥
round_minus e = cc

function_minus : {f : Function} → Some (opens.Prefix unary.Minus) ≡ Some (opens.Function f) → ⊥
function_minus e = cc

pub minus_left : {x : Sort} {y : Yield} {ts us : List Placed} → Gets x y ts us → (k : Placed) (n : ℕ) (t c : Placed) (r : List Placed) → ts ≡ k ∷ t ∷ c ∷ r → Is the.Minus k → Numeral n t → Is the.Colon c → us ≡ c ∷ r
minus_left (gr.chain g) k n t c r e h i j = minus_left g k n t c r e h i j
minus_left (gr.condense a1 a2 a3 a4 a5 a6) k n t c r e h i j = absurd (minus_symbol the.Condense _ k (first _ _ _ _ e) refl a1 h)
minus_left (gr.condense_where a1 a2 a3 a4 a5 a6 a7 a8) k n t c r e h i j = absurd (minus_symbol the.Condense _ k (first _ _ _ _ e) refl a1 h)
minus_left (gr.coverage a1 a2 a3 a4 a5 a6) k n t c r e h i j = absurd (minus_symbol the.Coverage _ k (first _ _ _ _ e) refl a1 h)
minus_left (gr.tighter g) k n t c r e h i j = minus_left g k n t c r e h i j
minus_left (gr.joins {n = m} q g o p) k n t c r e h i j = absurd (colon_joins m _ c (first _ _ _ _ (minus_left g k n t c r e h i j)) o j)
minus_left (gr.compares g o p) k n t c r e h i j = absurd (colon_joins 2 _ c (first _ _ _ _ (minus_left g k n t c r e h i j)) o j)
minus_left (gr.prefix o g) k n t c r e h i j = colon_left g n t c r (rest _ _ _ _ e) i j
minus_left (gr.plain g) k n t c r e h i j = minus_left g k n t c r e h i j
minus_left (gr.whole g) k n t c r e h i j = minus_left g k n t c r e h i j
minus_left (gr.bracket g o p z) k n t c r e h i j = absurd (colon_square _ c (first _ _ _ _ (minus_left g k n t c r e h i j)) o j)
minus_left (gr.number {n = m} o) k n t c r e h i j = absurd (minus_word number_of _ k m refl (first _ _ _ _ e) o h)
minus_left (gr.truth {b = b} o) k n t c r e h i j = absurd (minus_opens _ _ k (first _ _ _ _ e) o (truth_minus b) h)
minus_left (gr.name {w = w} o) k n t c r e h i j = absurd (minus_word variable_of _ k w refl (first _ _ _ _ e) o h)
minus_left (gr.iterator {w = w} o) k n t c r e h i j = absurd (minus_word word_of _ k w refl (first _ _ _ _ e) o h)
minus_left (gr.round o g z) k n t c r e h i j = absurd (minus_opens _ _ k (first _ _ _ _ e) o round_minus h)
minus_left (gr.function o p g z) k n t c r e h i j = absurd (minus_opens _ _ k (first _ _ _ _ e) o function_minus h)
minus_left (gr.last_entry g) k n t c r e h i j = minus_left g k n t c r e h i j
minus_left (gr.more_entries g o p) k n t c r e h i j = absurd (colon_comma _ c (first _ _ _ _ (minus_left g k n t c r e h i j)) o j)
minus_left (gr.trim {x = x} o g) k n t c r e h i j = absurd (minus_word axis_of _ k x refl (first _ _ _ _ e) o h)
minus_left (gr.slice {x = x} o p g z) k n t c r e h i j = absurd (minus_word axis_of _ k x refl (first _ _ _ _ e) o h)
