-- Bytes that are made of pieces are accepted, where each piece shows by its own bytes where it ends.
use Rattle.std.proofs.Common.{◌≡◌, ℕ, suc, Bool, true, false, cond, not, ◌&&◌, eqb, List, [], ◌∷◌, Some, None, sym, refl, ap, ◌∙◌, subst, arith, eq-eqb}
use borrow.Author.Tests.{clash}
use Rattle.std.proofs.lemmas.Bool.{not-true}
use Rattle.coverage.proofs.Bools.{by_test, and_left, and_right, and_both}
use Rattle.lines.specs.Numerals.{is_digit}
use Rattle.lines.specs.Pieces.{Piece, word, digits, more, number, others, name, text, closed, is_name_byte, Next, stuck, onto, after, complete, follow, stop}
use Rattle.lines.specs.Grammar.{Made, word_byte, word_done, digit_first, digit_more, digits_done, number_minus, number_plain, others_blank, others_done, name_byte, name_done, text_byte, text_close, closed_done, closed_text}
use Rattle.lines.proofs.Bytes.{at_byte, at_end_lem}
use Rattle.lines.proofs.Words.{digit_apart}

-- pieces that do not begin with a byte of a sort
abbrev barred : (ℕ → Bool) → List Piece → Bool
barred f [] = true
barred f (word [] ∷ s) = barred f s
barred f (word (c ∷ w) ∷ s) = not (f c)
barred f (digits ∷ s) = false
barred f (more ∷ s) = false
barred f (number ∷ s) = false
barred f (others ∷ s) = not (f 32) && barred f s
barred f (name ∷ s) = false
barred f (text ∷ s) = false
barred f (closed ∷ s) = false

abbrev nothing_left : List Piece → Bool
nothing_left [] = true
nothing_left (x ∷ s) = false

-- after each piece come others that do not begin as it goes on
abbrev pub clear : List Piece → Bool
clear [] = true
clear (word w ∷ s) = clear s
clear (digits ∷ s) = barred is_digit s && clear s
clear (more ∷ s) = barred is_digit s && clear s
clear (number ∷ s) = barred is_digit s && clear s
clear (others ∷ s) = (barred is_digit s && barred (λ b. eqb b 32) s) && clear s
clear (name ∷ s) = barred is_name_byte s && clear s
clear (text ∷ s) = nothing_left s
clear (closed ∷ s) = nothing_left s

opens : (f : ℕ → Bool) (s : List Piece) (b : ℕ) (bs : List ℕ) → Made s (b ∷ bs) → barred f s ≡ true → f b ≡ false
opens f [] b bs m h = elim m [ ]
opens f (word [] ∷ s) b bs (word_done m) h = opens f s b bs m h
opens f (word (c ∷ w) ∷ s) b bs (word_byte m) h = not-true (f c) h
opens f (digits ∷ s) b bs m h = absurd (clash h)
opens f (more ∷ s) b bs m h = absurd (clash h)
opens f (number ∷ s) b bs m h = absurd (clash h)
opens f (others ∷ s) b bs (others_blank m) h = not-true (f 32) (and_left (not (f 32)) (barred f s) h)
opens f (others ∷ s) b bs (others_done m) h = opens f s b bs m (and_right (not (f 32)) (barred f s) h)
opens f (name ∷ s) b bs m h = absurd (clash h)
opens f (text ∷ s) b bs m h = absurd (clash h)
opens f (closed ∷ s) b bs m h = absurd (clash h)

abbrev Onward : Next → List ℕ → Type 0
Onward stuck bs = ⊥
Onward (onto s) bs = Made s bs × (clear s ≡ true)

-- a test that comes out true, or false, leaves its branch
yes_onward : (c : Bool) (m n : Next) (bs : List ℕ) → c ≡ true → Onward m bs → Onward (cond c m n) bs
yes_onward c m n bs e h = subst (λ (x : Bool). Onward (cond x m n) bs) (sym e) h

no_onward : (c : Bool) (m n : Next) (bs : List ℕ) → c ≡ false → Onward n bs → Onward (cond c m n) bs
no_onward c m n bs e h = subst (λ (x : Bool). Onward (cond x m n) bs) (sym e) h

text_onward : (s : List Piece) (b : ℕ) (bs : List ℕ) → Made (text ∷ s) bs → nothing_left s ≡ true → Onward (cond (eqb b 41) (onto (closed ∷ s)) (onto (text ∷ s))) bs
text_onward s b bs m k = by_test (eqb b 41) (λ e. yes_onward (eqb b 41) _ _ bs e (closed_text m, k)) (λ e. no_onward (eqb b 41) _ _ bs e (m, k))

text_forth : (s : List Piece) (b : ℕ) (bs : List ℕ) → Made (text ∷ s) (b ∷ bs) → nothing_left s ≡ true → Onward (cond (eqb b 41) (onto (closed ∷ s)) (onto (text ∷ s))) bs
text_forth s b bs (text_byte m) k = text_onward s b bs m k
text_forth s b bs (text_close m) k = (closed_done m, k)

nothing_more : (s : List Piece) (b : ℕ) (bs : List ℕ) → Made s (b ∷ bs) → nothing_left s ≡ true → ⊥
nothing_more [] b bs m k = elim m [ ]
nothing_more (x ∷ s) b bs m k = clash k

pub forth : (s : List Piece) (b : ℕ) (bs : List ℕ) → Made s (b ∷ bs) → clear s ≡ true → Onward (after s b) bs
forth [] b bs m k = elim m [ ]
forth (word [] ∷ s) b bs (word_done m) k = forth s b bs m k
forth (word (c ∷ w) ∷ s) b bs (word_byte m) k = yes_onward (eqb c c) (onto (word w ∷ s)) stuck bs (eq-eqb c c refl) (m, k)
forth (digits ∷ s) b bs (digit_first e m) k = yes_onward (is_digit b) (onto (more ∷ s)) stuck bs e (m, k)
forth (more ∷ s) b bs (digit_more e m) k = yes_onward (is_digit b) (onto (more ∷ s)) (after s b) bs e (m, k)
forth (more ∷ s) b bs (digits_done m) k = no_onward (is_digit b) (onto (more ∷ s)) (after s b) bs (opens is_digit s b bs m (and_left (barred is_digit s) (clear s) k)) (forth s b bs m (and_right (barred is_digit s) (clear s) k))
forth (number ∷ s) b bs (number_minus m) k = (m, k)
forth (number ∷ s) b bs (number_plain (digit_first e m)) k =
    no_onward (eqb b 45) (onto (digits ∷ s)) (cond (is_digit b) (onto (more ∷ s)) stuck) bs (digit_apart b 45 (omega arith) e) (yes_onward (is_digit b) (onto (more ∷ s)) stuck bs e (m, k))
forth (others ∷ s) b bs (others_blank m) k = (m, and_both (barred is_digit s) (clear (others ∷ s)) (and_left (barred is_digit s) (barred (λ x. eqb x 32) s) (and_left (barred is_digit s && barred (λ x. eqb x 32) s) (clear s) k)) k)
forth (others ∷ s) b bs (others_done m) k =
    no_onward (eqb b 32) (onto (number ∷ others ∷ s)) (after s b) bs (opens (λ x. eqb x 32) s b bs m (and_right (barred is_digit s) (barred (λ x. eqb x 32) s) (and_left (barred is_digit s && barred (λ x. eqb x 32) s) (clear s) k))) (forth s b bs m (and_right (barred is_digit s && barred (λ x. eqb x 32) s) (clear s) k))
forth (name ∷ s) b bs (name_byte e m) k = yes_onward (is_name_byte b) (onto (name ∷ s)) (after s b) bs e (m, k)
forth (name ∷ s) b bs (name_done m) k = no_onward (is_name_byte b) (onto (name ∷ s)) (after s b) bs (opens is_name_byte s b bs m (and_left (barred is_name_byte s) (clear s) k)) (forth s b bs m (and_right (barred is_name_byte s) (clear s) k))
forth (text ∷ s) b bs m k = text_forth s b bs m k
forth (closed ∷ s) b bs (closed_done m) k = absurd (nothing_more s b bs m k)
forth (closed ∷ s) b bs (closed_text m) k = text_forth s b bs m k

ended : (s : List Piece) → Made s [] → complete s ≡ true
ended [] m = refl
ended (word [] ∷ s) (word_done m) = ended s m
ended (word (c ∷ w) ∷ s) m = elim m [ ]
ended (digits ∷ s) m = elim m [ ]
ended (more ∷ s) (digits_done m) = ended s m
ended (number ∷ s) (number_plain m) = elim m [ ]
ended (others ∷ s) (others_done m) = ended s m
ended (name ∷ s) (name_done m) = ended s m
ended (text ∷ s) m = elim m [ ]
ended (closed ∷ s) (closed_done m) = ended s m
ended (closed ∷ s) (closed_text m) = elim m [ ]

pub accepts : (p : ℕ) (s : List Piece) (bs : List ℕ) → Made s bs → clear s ≡ true → stop p s bs ≡ None
accepts p s [] m k = at_end_lem p s ∙ ap (λ (x : Bool). cond x None (Some p)) (ended s m)
accepts p s (b ∷ bs) m k = at_byte p s b bs ∙ onward (after s b) (λ t n j. accepts (suc p) t bs n j) (forth s b bs m k)
  where
    onward : (n : Next) → ((t : List Piece) → Made t bs → clear t ≡ true → stop (suc p) t bs ≡ None) → Onward n bs → follow (λ t. stop (suc p) t bs) p n ≡ None
    onward stuck f h = absurd h
    onward (onto t) f h = f t h.0 h.1
