-- Words and `$` words are spelt by the text where they stand, and numerals are not too large.
use Rattle.std.proofs.Common.{◌≡◌, ℕ, zero, suc, ◌+◌, ◌-◌, ◌≤◌, ◌&&◌, eqb, ltb, leb, List, [], ◌∷◌, length, get_or, take, drop, Some, None, codes, Option, refl, ap}
use Rattle.std.specs.List.{AllByRecursion as All}
use Rattle.std.specs.Str.{bytes_eq}
use Rattle.std.proofs.lemmas.Bool.{cond_both, leb-true}
use Rattle.lexer.specs.declared.symbol.Symbol.{Symbol}
use Rattle.lexer.specs.Bytes.{letter, digit, blank, part, run}
use Rattle.lexer.specs.Numerals.{decimal}
use Rattle.lexer.specs.Reserved.{word_token, or_else, clause_word, operator_word, function_word}
use Rattle.lexer.specs.Tokens.{Tok, word, variable, numeral, symbol, bad, end, Seen, seen}
use Rattle.lexer.specs.Lexing.{cut, mark_token, pair_token, paired, token_at, lexed}
use Rattle.lexer.specs.Toks.{Placed, is_end, listed, toks_by, toks}

-- a token that begins at p
abbrev pub Spelt : List ℕ → Tok → ℕ → Type 0
Spelt bs (word w) p = take (length w) (drop p bs) ≡ w
Spelt bs (variable w) p = take (length w) (drop (p + 1) bs) ≡ w
Spelt bs (numeral n) p = n ≤ 2147483647
Spelt bs (symbol s) p = Unit {0}
Spelt bs bad p = Unit {0}
Spelt bs end p = Unit {0}

abbrev SeenSpelt : List ℕ → Seen → Type 0
SeenSpelt bs (seen t s n) = Spelt bs t s

-- all tokens of a list
abbrev pub AllSpelt : List ℕ → List Placed → Type 0
AllSpelt bs ts = All (λ (x : Placed). Spelt bs x.0 x.1) ts

take_again : (n : ℕ) (xs : List ℕ) → take (length (take n xs)) xs ≡ take n xs
take_again zero xs = refl
take_again (suc n) [] = refl
take_again (suc n) (x ∷ xs) = ap (λ ys. x ∷ ys) (take_again n xs)

or_else_spelt : (bs : List ℕ) (p : ℕ) (o : Option Symbol) (t : Tok) → Spelt bs t p → Spelt bs (or_else o t) p
or_else_spelt bs p (Some s) t h = tt
or_else_spelt bs p None t h = h

word_spelt : (bs : List ℕ) (s n : ℕ) → Spelt bs (word_token (cut bs s n)) s
word_spelt bs s n = or_else_spelt bs s (clause_word (cut bs s n)) _ (or_else_spelt bs s (operator_word (cut bs s n)) _ (or_else_spelt bs s (function_word (cut bs s n)) (word (cut bs s n)) (take_again n (drop s bs))))

pair_spelt : (bs : List ℕ) (s b : ℕ) → Spelt bs (pair_token b) s
pair_spelt bs s b =
    let P : Tok → Type 0 = λ t. Spelt bs t s in
    cond_both (eqb b 33) _ _ P (λ _. tt) (λ _. cond_both (eqb b 60) _ _ P (λ _. tt) (λ _. cond_both (eqb b 62) _ _ P (λ _. tt) (λ _. tt)))

mark_spelt : (bs : List ℕ) (s b : ℕ) → Spelt bs (mark_token b) s
mark_spelt bs s b =
    let P : Tok → Type 0 = λ t. Spelt bs t s in
    cond_both (eqb b 40) _ _ P (λ _. tt) (λ _. cond_both (eqb b 41) _ _ P (λ _. tt) (λ _. cond_both (eqb b 91) _ _ P (λ _. tt) (λ _. cond_both (eqb b 93) _ _ P (λ _. tt)
    (λ _. cond_both (eqb b 44) _ _ P (λ _. tt) (λ _. cond_both (eqb b 58) _ _ P (λ _. tt) (λ _. cond_both (eqb b 43) _ _ P (λ _. tt) (λ _. cond_both (eqb b 45) _ _ P (λ _. tt)
    (λ _. cond_both (eqb b 42) _ _ P (λ _. tt) (λ _. cond_both (eqb b 47) _ _ P (λ _. tt) (λ _. cond_both (eqb b 61) _ _ P (λ _. tt) (λ _. cond_both (eqb b 60) _ _ P (λ _. tt)
    (λ _. cond_both (eqb b 62) _ _ P (λ _. tt) (λ _. tt)))))))))))))

token_spelt : (bs : List ℕ) (s : ℕ) → SeenSpelt bs (token_at bs s)
token_spelt bs s =
    cond_both (leb (length bs) s) _ _ (SeenSpelt bs) (λ _. tt)
    (λ _. cond_both (letter (get_or bs s 0)) _ _ (SeenSpelt bs) (λ _. cond_both (ltb 16 (run part bs s)) _ _ (SeenSpelt bs) (λ _. tt) (λ _. word_spelt bs s (run part bs s)))
    (λ _. cond_both (digit (get_or bs s 0)) _ _ (SeenSpelt bs) (λ _. cond_both (leb (decimal 0 (cut bs s (run digit bs s))) 2147483647) _ _ (SeenSpelt bs) (λ e. leb-true _ _ e) (λ _. tt))
    (λ _. cond_both (eqb (get_or bs s 0) 36) _ _ (SeenSpelt bs)
    (λ _. cond_both (ltb (s + 1) (length bs) && letter (get_or bs (s + 1) 0)) _ _ (SeenSpelt bs)
    (λ _. cond_both (ltb 16 (run part bs (s + 1))) _ _ (SeenSpelt bs) (λ _. tt) (λ _. take_again (run part bs (s + 1)) (drop (s + 1) bs)))
    (λ _. tt))
    (λ _. cond_both (eqb (get_or bs s 0) 34) _ _ (SeenSpelt bs)
    (λ _. cond_both (leb 6 (length bs - s) && bytes_eq (cut bs s 6) (codes "\"rows\"")) _ _ (SeenSpelt bs) (λ _. tt) (λ _. tt))
    (λ _. cond_both (paired bs s) _ _ (SeenSpelt bs) (λ _. pair_spelt bs s (get_or bs s 0)) (λ _. mark_spelt bs s (get_or bs s 0)))))))

listed_spelt : (bs : List ℕ) (more : ℕ → List Placed) → ((n : ℕ) → AllSpelt bs (more n)) → (x : Seen) → SeenSpelt bs x → AllSpelt bs (listed more x)
listed_spelt bs more h (seen t s n) k = cond_both (is_end t) _ _ (AllSpelt bs) (λ _. tt) (λ _. (k, h n))

toks_by_spelt : (k : ℕ) (bs : List ℕ) (at : ℕ) → AllSpelt bs (toks_by k bs at)
unfolding toks_by
toks_by_spelt zero bs at = tt
toks_by_spelt (suc k) bs at = listed_spelt bs (λ n. toks_by k bs n) (λ n. toks_by_spelt k bs n) (lexed bs at) (token_spelt bs (at + run blank bs at))

-- every token of a text
pub toks_spelt : (bs : List ℕ) (at : ℕ) → AllSpelt bs (toks bs at)
unfolding toks
toks_spelt bs at = toks_by_spelt (suc (length bs - at)) bs at
