-- The words of a text, and numerals among them.
use Rattle.std.proofs.Common.{◌≡◌, ℕ, ◌≤◌, Bool, true, false, cond, eqb, leb, List, [], ◌∷◌, ◌++◌, sym, refl, ap, ◌∙◌, append_assoc, arith, ne_eqb, eqb-true, leb-true}
use borrow.Author.Tests.{clash}
use Rattle.std.proofs.lemmas.List.{append-nil}
use Rattle.coverage.proofs.Bools.{by_test, and_left, and_right, and_both}
use Rattle.lines.specs.Says.{AreCells}
use Rattle.lines.specs.Numerals.{is_digit, all_digits, is_count, is_number, words_after, words_of, all_numbers}

pub digit_low : (b : ℕ) → is_digit b ≡ true → 48 ≤ b
digit_low b h = leb-true 48 b (and_left (leb 48 b) (leb b 57) h)

pub digit_high : (b : ℕ) → is_digit b ≡ true → b ≤ 57
digit_high b h = leb-true b 57 (and_right (leb 48 b) (leb b 57) h)

pub digit_apart : (b c : ℕ) → c ≤ 47 → is_digit b ≡ true → eqb b c ≡ false
digit_apart b c k h = let l = digit_low b h in ne_eqb b c (λ e. omega arith)

pub count_digits : (w : List ℕ) → is_count w ≡ true → all_digits w ≡ true
count_digits [] h = absurd (clash h)
count_digits (b ∷ w) h = h

pub count_number : (w : List ℕ) → is_count w ≡ true → is_number w ≡ true
count_number [] h = h
count_number (b ∷ w) h =
    let e = digit_apart b 45 (omega arith) (and_left (is_digit b) (all_digits w) h) in
    ap (λ (c : Bool). cond c (is_count w) (is_count (b ∷ w))) e ∙ h

-- digits have no blank among them
digits_word : (w bs : List ℕ) → all_digits bs ≡ true → words_after w bs ≡ (w ++ bs) ∷ []
digits_word w [] h = ap (λ (v : List ℕ). v ∷ []) (sym (append-nil w))
digits_word w (b ∷ bs) h =
    let e = digit_apart b 32 (omega arith) (and_left (is_digit b) (all_digits bs) h) in
    ap (λ (c : Bool). cond c (w ∷ words_after [] bs) (words_after (w ++ (b ∷ [])) bs)) e ∙ digits_word (w ++ (b ∷ [])) bs (and_right (is_digit b) (all_digits bs) h) ∙ ap (λ (v : List ℕ). v ∷ []) (append_assoc w (b ∷ []) bs)

pub number_word : (w : List ℕ) → is_number w ≡ true → words_of w ≡ w ∷ []
number_word [] h = refl
number_word (b ∷ w) h = by_test (eqb b 45)
    (λ e.
    let d : all_digits w ≡ true = count_digits w (sym (ap (λ (c : Bool). cond c (is_count w) (is_count (b ∷ w))) e) ∙ h) in
    let n : eqb b 32 ≡ false = let q = eqb-true b 45 e in ne_eqb b 32 (λ x. omega arith) in
    ap (λ (c : Bool). cond c ([] ∷ words_after [] w) (words_after (b ∷ []) w)) n ∙ digits_word (b ∷ []) w d)
    (λ e. digits_word [] (b ∷ w) (sym (ap (λ (c : Bool). cond c (is_count w) (is_count (b ∷ w))) e) ∙ h))

-- a blank parts the words before it from those after it
pub words_append : (w xs ys : List ℕ) → words_after w (xs ++ (32 ∷ ys)) ≡ words_after w xs ++ words_of ys
words_append w [] ys = refl
words_append w (b ∷ xs) ys = words_append_one w b xs ys (λ v. words_append v xs ys)
  where
    words_append_one : (w : List ℕ) (b : ℕ) (xs ys : List ℕ) → ((v : List ℕ) → words_after v (xs ++ (32 ∷ ys)) ≡ words_after v xs ++ words_of ys) → words_after w ((b ∷ xs) ++ (32 ∷ ys)) ≡ words_after w (b ∷ xs) ++ words_of ys
    words_append_one w b xs ys i = by_test (eqb b 32)
        (λ e. rw e (ap (λ (v : List (List ℕ)). w ∷ v) (i [])))
        (λ e. rw e (i (w ++ (b ∷ []))))

pub numbers_append : (xs ys : List (List ℕ)) → all_numbers xs ≡ true → all_numbers ys ≡ true → all_numbers (xs ++ ys) ≡ true
numbers_append [] ys h k = k
numbers_append (x ∷ xs) ys h k = and_both (is_number x) (all_numbers (xs ++ ys)) (and_left (is_number x) (all_numbers xs) h) (numbers_append xs ys (and_right (is_number x) (all_numbers xs) h) k)

pub are_cells : (w : List ℕ) → all_numbers (words_of w) ≡ true → AreCells w
are_cells [] h = tt
are_cells (b ∷ w) h = h
