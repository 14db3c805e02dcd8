-- A token ends past where it was looked for, so the tokens of a text do not depend on the bound.
use Rattle.std.proofs.Common.{◌≡◌, ℕ, zero, suc, ◌+◌, ◌-◌, ◌<◌, ◌≤◌, Bool, true, false, ◌&&◌, eqb, ltb, leb, List, length, get_or, drop, Some, None, codes, Option, sym, refl, ap, ◌∙◌, subst, arith, length-drop}
use Rattle.std.specs.Str.{bytes_eq}
use Rattle.std.proofs.lemmas.List.Sums.{prefix_len-drop_yes, prefix_len-le-length}
use Rattle.std.proofs.lemmas.Bool.{cond_both, leb-true, leb-false, false≢true, or_left, and_parts, ltb-true}
use Rattle.lexer.specs.declared.symbol.Symbol.{Symbol}
use Rattle.lexer.specs.Bytes.{letter, digit, blank, part, run}
use Rattle.lexer.specs.Numerals.{decimal}
use Rattle.lexer.specs.Reserved.{word_token, or_else, clause_word, operator_word, function_word}
use Rattle.lexer.specs.Tokens.{Tok, Seen, seen, view, tok}
use Rattle.lexer.specs.Lexing.{cut, word_at, variable_at, numeral_at, rows_at, mark_token, pair_token, paired, mark_at, token_at, lexed}
use Rattle.lexer.specs.Toks.{is_end, consed, listed, toks_by, toks, Peeked}
use Rattle.lexer.specs.declared.token.Lexed.{Lexed}

pub record Onward (bs : List ℕ) (at : ℕ) (t : Tok) (s n : ℕ) : Type 0 where
  pub after : at ≤ n
  pub within : n ≤ length bs
  pub forward : is_end t ≡ false → at < n
  pub begins : is_end t ≡ false → s < n
  pub ends : is_end t ≡ true → s ≡ length bs

abbrev pub Forward : List ℕ → ℕ → Seen → Type 0
Forward bs at (seen t s n) = Onward bs at t s n

abbrev Some_token : Tok → Type 0
Some_token t = is_end t ≡ false

-- a token of at least one byte that is not the end
goes : {bs : List ℕ} {at s n : ℕ} {t : Tok} → Some_token t → at ≤ s → s < n → n ≤ length bs → Onward bs at t s n
goes e a l w = record { after = omega arith; within = w; forward = λ _. omega arith; begins = λ _. l; ends = λ f. absurd (false≢true (sym e ∙ f)) }

run_within : (k : ℕ → Bool) (bs : List ℕ) (s : ℕ) → s ≤ length bs → s + run k bs s ≤ length bs
run_within k bs s h = omega (arith, prefix_len-le-length (k) (drop s bs), length-drop s bs)

run_some : (k : ℕ → Bool) (bs : List ℕ) (s : ℕ) → s < length bs → k (get_or bs s 0) ≡ true → s < s + run k bs s
run_some k bs s h e = omega (arith, prefix_len-drop_yes (k) bs s 0 h e)

or_else_some : (o : Option Symbol) (t : Tok) → Some_token t → Some_token (or_else o t)
or_else_some (Some s) t e = refl
or_else_some None t e = e

word_some : (w : List ℕ) → Some_token (word_token w)
word_some w = or_else_some (clause_word w) _ (or_else_some (operator_word w) _ (or_else_some (function_word w) _ refl))

pair_some : (b : ℕ) → Some_token (pair_token b)
pair_some b = cond_both (eqb b 33) _ _ Some_token (λ _. refl) (λ _. cond_both (eqb b 60) _ _ Some_token (λ _. refl) (λ _. cond_both (eqb b 62) _ _ Some_token (λ _. refl) (λ _. refl)))

mark_some : (b : ℕ) → Some_token (mark_token b)
mark_some b = cond_both (eqb b 40) _ _ Some_token (λ _. refl) (λ _. cond_both (eqb b 41) _ _ Some_token (λ _. refl) (λ _. cond_both (eqb b 91) _ _ Some_token (λ _. refl) (λ _. cond_both (eqb b 93) _ _ Some_token (λ _. refl) (λ _. cond_both (eqb b 44) _ _ Some_token (λ _. refl) (λ _. cond_both (eqb b 58) _ _ Some_token (λ _. refl) (λ _. cond_both (eqb b 43) _ _ Some_token (λ _. refl) (λ _. cond_both (eqb b 45) _ _ Some_token (λ _. refl) (λ _. cond_both (eqb b 42) _ _ Some_token (λ _. refl) (λ _. cond_both (eqb b 47) _ _ Some_token (λ _. refl) (λ _. cond_both (eqb b 61) _ _ Some_token (λ _. refl) (λ _. cond_both (eqb b 60) _ _ Some_token (λ _. refl) (λ _. cond_both (eqb b 62) _ _ Some_token (λ _. refl) (λ _. refl)))))))))))))

word_forward : (bs : List ℕ) (at s : ℕ) → at ≤ s → s < length bs → letter (get_or bs s 0) ≡ true → Forward bs at (word_at bs s)
word_forward bs at s a lt l =
    let m : s < s + run part bs s = run_some part bs s lt (or_left _ _ l) in
    let k : s + run part bs s ≤ length bs = run_within part bs s (omega arith) in
    cond_both (ltb 16 (run part bs s)) _ _ (Forward bs at)
    (λ _. goes refl a m k)
    (λ _. goes (word_some (cut bs s (run part bs s))) a m k)

variable_forward : (bs : List ℕ) (at s : ℕ) → at ≤ s → s < length bs → Forward bs at (variable_at bs s)
variable_forward bs at s a lt =
    cond_both (ltb (s + 1) (length bs) && letter (get_or bs (s + 1) 0)) _ _ (Forward bs at)
    (λ e.
    let q = and_parts (ltb (s + 1) (length bs)) (letter (get_or bs (s + 1) 0)) e in
    let h : s + 1 < length bs = ltb-true (s + 1) (length bs) q.0 in
    let m : s + 1 < s + 1 + run part bs (s + 1) = run_some part bs (s + 1) h (or_left (letter (get_or bs (s + 1) 0)) _ q.1) in
    let k : s + 1 + run part bs (s + 1) ≤ length bs = run_within part bs (s + 1) (omega arith) in
    cond_both (ltb 16 (run part bs (s + 1))) _ _ (Forward bs at)
    (λ _. goes refl a (omega arith) k)
    (λ _. goes refl a (omega arith) k))
    (λ _. goes refl a (omega arith) (omega arith))

numeral_forward : (bs : List ℕ) (at s : ℕ) → at ≤ s → s < length bs → digit (get_or bs s 0) ≡ true → Forward bs at (numeral_at bs s)
numeral_forward bs at s a lt l =
    let m : s < s + run digit bs s = run_some digit bs s lt l in
    let k : s + run digit bs s ≤ length bs = run_within digit bs s (omega arith) in
    cond_both (leb (decimal 0 (cut bs s (run digit bs s))) 2147483647) _ _ (Forward bs at)
    (λ _. goes refl a m k)
    (λ _. goes refl a m k)

rows_forward : (bs : List ℕ) (at s : ℕ) → at ≤ s → s < length bs → Forward bs at (rows_at bs s)
rows_forward bs at s a lt =
    cond_both (leb 6 (length bs - s) && bytes_eq (cut bs s 6) (codes "\"rows\"")) _ _ (Forward bs at)
    (λ e. goes refl a (omega arith) (omega (arith, leb-true 6 (length bs - s) (and_parts _ _ e).0)))
    (λ _. goes refl a (omega arith) (omega arith))

mark_forward : (bs : List ℕ) (at s : ℕ) → at ≤ s → s < length bs → Forward bs at (mark_at bs s)
mark_forward bs at s a lt =
    cond_both (paired bs s) _ _ (Forward bs at)
    (λ e. goes (pair_some (get_or bs s 0)) a (omega arith) (omega (arith, ltb-true (s + 1) (length bs) (and_parts _ _ (and_parts _ _ e).1).0)))
    (λ _. goes (mark_some (get_or bs s 0)) a (omega arith) (omega arith))

token_forward : (bs : List ℕ) (at s : ℕ) → at ≤ s → s ≤ length bs → Forward bs at (token_at bs s)
token_forward bs at s a w =
    cond_both (leb (length bs) s) _ _ (Forward bs at)
    (λ e. record { after = a; within = w; forward = λ f. absurd (false≢true (sym f)); begins = λ f. absurd (false≢true (sym f)); ends = λ _. omega (arith, leb-true (length bs) s e) })
    (λ e.
    let lt : s < length bs = leb-false (length bs) s e in
    cond_both (letter (get_or bs s 0)) _ _ (Forward bs at) (λ l. word_forward bs at s a lt l)
    (λ _. cond_both (digit (get_or bs s 0)) _ _ (Forward bs at) (λ l. numeral_forward bs at s a lt l)
    (λ _. cond_both (eqb (get_or bs s 0) 36) _ _ (Forward bs at) (λ _. variable_forward bs at s a lt)
    (λ _. cond_both (eqb (get_or bs s 0) 34) _ _ (Forward bs at) (λ _. rows_forward bs at s a lt)
    (λ _. mark_forward bs at s a lt)))))

pub lexed_forward : (bs : List ℕ) (at : ℕ) → at ≤ length bs → Forward bs at (lexed bs at)
lexed_forward bs at h = token_forward bs at (at + run blank bs at) (omega arith) (run_within blank bs at h)

same_step : (j k : ℕ) (bs : List ℕ) (at : ℕ) → length bs - at ≤ j → length bs - at ≤ k → ((n : ℕ) → n ≤ length bs → length bs - n < j → length bs - n < k → toks_by j bs n ≡ toks_by k bs n) → (x : Seen) → Forward bs at x → listed (λ n. toks_by j bs n) x ≡ listed (λ n. toks_by k bs n) x
same_step j k bs at a b rec (seen t s n) f = cases (is_end t) refl
  where
    cases : (b : Bool) → is_end t ≡ b → consed t s (toks_by j bs n) ≡ consed t s (toks_by k bs n)
    cases true e = rw e refl
    cases false e = ap (consed t s) (rec n f.within (omega (arith, f.forward e, f.within)) (omega (arith, f.forward e, f.within)))

-- two bounds that are large enough give the same tokens
pub toks_by_lem : (j k : ℕ) (bs : List ℕ) (at : ℕ) → at ≤ length bs → length bs - at < j → length bs - at < k → toks_by j bs at ≡ toks_by k bs at
unfolding toks_by
toks_by_lem zero k bs at h a b = absurd (omega arith)
toks_by_lem (suc j) zero bs at h a b = absurd (omega arith)
toks_by_lem (suc j) (suc k) bs at h a b =
    same_step j k bs at (omega arith) (omega arith) (λ n. toks_by_lem j k bs n) (lexed bs at) (lexed_forward bs at h)

-- a cursor further on in the same text, with the token that was read to it
pub peeked : (bs : List ℕ) (at : ℕ) (r : Lexed) → at ≤ length bs → r.next.text.now ≡ bs → view r ≡ lexed bs at → Peeked bs at r
unfolding toks_by toks
peeked bs at r h w e =
    let f : Onward bs at (tok r.token) r.place r.next.at = subst (Forward bs at) (sym e) (lexed_forward bs at h) in
    record {
      text = w;
      tokens = ap (listed (λ n. toks_by (length bs - at) bs n)) (sym e) ∙ more f (is_end (tok r.token)) refl;
      after = f.after;
      within = f.within;
      forward = f.forward;
      begins = f.begins;
      ends = f.ends;
    }
  where
    more : Onward bs at (tok r.token) r.place r.next.at → (b : Bool) → is_end (tok r.token) ≡ b → consed (tok r.token) r.place (toks_by (length bs - at) bs r.next.at) ≡ consed (tok r.token) r.place (toks_by (suc (length bs - r.next.at)) bs r.next.at)
    more f true q = rw q refl
    more f false q = ap (consed (tok r.token) r.place) (toks_by_lem (length bs - at) (suc (length bs - r.next.at)) bs r.next.at f.within (omega (arith, f.forward q, f.within)) (omega arith))
