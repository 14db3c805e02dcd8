-- The byte after byte reading and the grammar agree.
use Rattle.std.proofs.Common.{◌≡◌, ℕ, zero, suc, ◌+◌, ◌-◌, ◌<◌, ◌≤◌, Bool, true, cond, eqb, List, [], ◌∷◌, ◌++◌, length, take, Some, None, Option, sym, refl, ap, ◌∙◌, subst, arith, eqb-true}
use borrow.Author.Tests.{clash}
use Rattle.std.proofs.lemmas.Bool.{cond_both}
use Rattle.coverage.proofs.Bools.{by_test}
use Rattle.lines.specs.Numerals.{is_digit}
use Rattle.lines.specs.Pieces.{Piece, word, digits, more, number, others, name, text, closed, is_name_byte, Next, stuck, onto, after, complete, follow, stop}
use Rattle.lines.specs.Grammar.{Made, done, word_byte, word_done, digit_first, digit_more, digits_done, number_minus, number_plain, others_blank, others_done, name_byte, name_done, text_byte, text_close, closed_done, closed_text}
use Rattle.lines.proofs.Bytes.{at_byte, at_end_lem}

-- ---- what the reading goes on with can be put behind the byte

abbrev After : Next → List ℕ → Type 0
After stuck bs = ⊥
After (onto s) bs = Made s bs

closed_back : (s : List Piece) (b : ℕ) (bs : List ℕ) → b ≡ 41 → Made (closed ∷ s) bs → Made (text ∷ s) (b ∷ bs)
closed_back s b bs e (closed_done m) = subst (λ (x : ℕ). Made (text ∷ s) (x ∷ bs)) (sym e) (text_close m)
closed_back s b bs e (closed_text m) = text_byte m

text_back : (s : List Piece) (b : ℕ) (bs : List ℕ) → After (cond (eqb b 41) (onto (closed ∷ s)) (onto (text ∷ s))) bs → Made (text ∷ s) (b ∷ bs)
text_back s b bs h = cond_both (eqb b 41) (onto (closed ∷ s)) (onto (text ∷ s)) (λ n. After n bs → Made (text ∷ s) (b ∷ bs)) (λ e k. closed_back s b bs (eqb-true b 41 e) k) (λ e k. text_byte k) h

back : (s : List Piece) (b : ℕ) (bs : List ℕ) → After (after s b) bs → Made s (b ∷ bs)
back [] b bs h = absurd h
back (word [] ∷ s) b bs h = word_done (back s b bs h)
back (word (c ∷ w) ∷ s) b bs h =
    cond_both (eqb b c) (onto (word w ∷ s)) stuck (λ n. After n bs → Made (word (c ∷ w) ∷ s) (b ∷ bs))
    (λ e k. subst (λ (x : ℕ). Made (word (c ∷ w) ∷ s) (x ∷ bs)) (sym (eqb-true b c e)) (word_byte k)) (λ e k. absurd k) h
back (digits ∷ s) b bs h =
    cond_both (is_digit b) (onto (more ∷ s)) stuck (λ n. After n bs → Made (digits ∷ s) (b ∷ bs)) (λ e k. digit_first e k) (λ e k. absurd k) h
back (more ∷ s) b bs h =
    cond_both (is_digit b) (onto (more ∷ s)) (after s b) (λ n. After n bs → Made (more ∷ s) (b ∷ bs)) (λ e k. digit_more e k) (λ e k. digits_done (back s b bs k)) h
back (number ∷ s) b bs h =
    cond_both (eqb b 45) (onto (digits ∷ s)) (cond (is_digit b) (onto (more ∷ s)) stuck) (λ n. After n bs → Made (number ∷ s) (b ∷ bs))
    (λ e k. subst (λ (x : ℕ). Made (number ∷ s) (x ∷ bs)) (sym (eqb-true b 45 e)) (number_minus k))
    (λ e. cond_both (is_digit b) (onto (more ∷ s)) stuck (λ n. After n bs → Made (number ∷ s) (b ∷ bs)) (λ d k. number_plain (digit_first d k)) (λ d k. absurd k)) h
back (others ∷ s) b bs h =
    cond_both (eqb b 32) (onto (number ∷ others ∷ s)) (after s b) (λ n. After n bs → Made (others ∷ s) (b ∷ bs))
    (λ e k. subst (λ (x : ℕ). Made (others ∷ s) (x ∷ bs)) (sym (eqb-true b 32 e)) (others_blank k)) (λ e k. others_done (back s b bs k)) h
back (name ∷ s) b bs h =
    cond_both (is_name_byte b) (onto (name ∷ s)) (after s b) (λ n. After n bs → Made (name ∷ s) (b ∷ bs)) (λ e k. name_byte e k) (λ e k. name_done (back s b bs k)) h
back (text ∷ s) b bs h = text_back s b bs h
back (closed ∷ s) b bs h = closed_text (text_back s b bs h)

finish : (s : List Piece) → complete s ≡ true → Made s []
finish [] h = done
finish (word [] ∷ s) h = word_done (finish s h)
finish (word (c ∷ w) ∷ s) h = absurd (clash h)
finish (digits ∷ s) h = absurd (clash h)
finish (more ∷ s) h = digits_done (finish s h)
finish (number ∷ s) h = absurd (clash h)
finish (others ∷ s) h = others_done (finish s h)
finish (name ∷ s) h = name_done (finish s h)
finish (text ∷ s) h = absurd (clash h)
finish (closed ∷ s) h = closed_done (finish s h)

-- whatever is left, some bytes make it
words : (w : List ℕ) (s : List Piece) (bs : List ℕ) → Made s bs → Made (word w ∷ s) (w ++ bs)
words [] s bs m = word_done m
words (b ∷ w) s bs m = word_byte (words w s bs m)

pub fills : (s : List Piece) → (bs : List ℕ) × Made s bs
fills [] = ([], done)
fills (word w ∷ s) = let r = fills s in (w ++ r.0, words w s r.0 r.1)
fills (digits ∷ s) = let r = fills s in (48 ∷ r.0, digit_first refl (digits_done r.1))
fills (more ∷ s) = let r = fills s in (r.0, digits_done r.1)
fills (number ∷ s) = let r = fills s in (48 ∷ r.0, number_plain (digit_first refl (digits_done r.1)))
fills (others ∷ s) = let r = fills s in (r.0, others_done r.1)
fills (name ∷ s) = let r = fills s in (r.0, name_done r.1)
fills (text ∷ s) = let r = fills s in (41 ∷ r.0, text_close r.1)
fills (closed ∷ s) = let r = fills s in (r.0, closed_done r.1)

-- ---- accepted bytes are made of the pieces

pub some_none : (p : ℕ) → ◌≡◌ {A = Option ℕ} (Some p) None → ⊥
some_none p e = let z : ◌≡◌ {A = ℕ} 0 1 = cc in omega arith

pub none_some : (p : ℕ) → ◌≡◌ {A = Option ℕ} None (Some p) → ⊥
none_some p e = let z : ◌≡◌ {A = ℕ} 0 1 = cc in omega arith

pub same_some : (p q : ℕ) → ◌≡◌ {A = Option ℕ} (Some p) (Some q) → p ≡ q
same_some p q e = cc

pub sound : (p : ℕ) (s : List Piece) (bs : List ℕ) → stop p s bs ≡ None → Made s bs
sound p s [] e = by_test (complete s) (λ c. finish s c) (λ c. absurd (some_none p (sym (ap (λ (x : Bool). cond x None (Some p)) c) ∙ sym (at_end_lem p s) ∙ e)))
sound p s (b ∷ bs) e = back s b bs (onward (after s b) (λ t k. sound (suc p) t bs k) (sym (at_byte p s b bs) ∙ e))
  where
    onward : (n : Next) → ((t : List Piece) → stop (suc p) t bs ≡ None → Made t bs) → follow (λ t. stop (suc p) t bs) p n ≡ None → After n bs
    onward stuck f k = some_none p k
    onward (onto t) f k = f t k

-- ---- what stands before the place begins such bytes

pub record Reached (p : ℕ) (s : List Piece) (bs : List ℕ) (q : ℕ) : Type 0 where
  pub low : p ≤ q
  pub high : q ≤ p + length bs
  pub rest : List ℕ
  pub front : Made s (take (q - p) bs ++ rest)

here : (p : ℕ) (s : List Piece) (bs : List ℕ) (q : ℕ) → p ≡ q → Reached p s bs q
here p s bs q e =
    let r = fills s in
    let z : q - p ≡ 0 = omega arith in
    record { low = omega arith; high = omega arith; rest = r.0; front = subst (λ (n : ℕ). Made s (take n bs ++ r.0)) (sym z) r.1 }

pub reached : (p : ℕ) (s : List Piece) (bs : List ℕ) (q : ℕ) → stop p s bs ≡ Some q → Reached p s bs q
reached p s [] q e = by_test (complete s)
    (λ c. absurd (none_some q (sym (ap (λ (x : Bool). cond x None (Some p)) c) ∙ sym (at_end_lem p s) ∙ e)))
    (λ c. here p s [] q (same_some p q (sym (ap (λ (x : Bool). cond x None (Some p)) c) ∙ sym (at_end_lem p s) ∙ e)))
reached p s (b ∷ bs) q e = onward (after s b) refl (λ t k. reached (suc p) t bs q k) (sym (at_byte p s b bs) ∙ e)
  where
    onward : (n : Next) → after s b ≡ n → ((t : List Piece) → stop (suc p) t bs ≡ Some q → Reached (suc p) t bs q) → follow (λ t. stop (suc p) t bs) p n ≡ Some q → Reached p s (b ∷ bs) q
    onward stuck a f k = here p s (b ∷ bs) q (same_some p q k)
    onward (onto t) a f k =
        let r = f t k in
        let l = r.low in
        let h = r.high in
        let z : q - p ≡ suc (q - suc p) = omega arith in
        record {
          low = omega arith;
          high = omega arith;
          rest = r.rest;
          front = subst (λ (n : ℕ). Made s (take n (b ∷ bs) ++ r.rest)) (sym z) (back s b (take (q - suc p) bs ++ r.rest) (subst (λ (n : Next). After n (take (q - suc p) bs ++ r.rest)) (sym a) r.front));
        }

-- a stop within the front does not hang on what follows
pub fronted : (p : ℕ) (s : List Piece) (bs r : List ℕ) (k q : ℕ) → stop p s bs ≡ Some q → q < p + k → k ≤ length bs → stop p s (take k bs ++ r) ≡ Some q
fronted p s [] r k q e h l = absurd (let z = (reached p s [] q e).low in omega arith)
fronted p s (b ∷ bs) r zero q e h l = absurd (let z = (reached p s (b ∷ bs) q e).low in omega arith)
fronted p s (b ∷ bs) r (suc k) q e h l = at_byte p s b (take k bs ++ r) ∙ onward (after s b) (λ t x. fronted (suc p) t bs r k q x (omega arith) (omega arith)) (sym (at_byte p s b bs) ∙ e)
  where
    onward : (n : Next) → ((t : List Piece) → stop (suc p) t bs ≡ Some q → stop (suc p) t (take k bs ++ r) ≡ Some q) → follow (λ t. stop (suc p) t bs) p n ≡ Some q → follow (λ t. stop (suc p) t (take k bs ++ r)) p n ≡ Some q
    onward stuck f x = x
    onward (onto t) f x = f t x
