-- Which bytes are a form, and where bytes stop being the beginning of one.
use Rattle.std.specs.Prelude.{◌≡◌, ℕ, ◌+◌, ◌<◌, ◌≤◌, true, ◌⊎◌, List, [], ◌∷◌, ◌++◌, length, take, Ok, Err, Result}
use Rattle.lines.specs.Numerals.{is_digit}
use Rattle.lines.specs.Pieces.{Piece, word, digits, more, number, others, name, text, closed, is_name_byte}
use Rattle.lines.specs.Forms.{forms}

-- bytes are made of pieces, one after the other
pub data Made : List Piece → List ℕ → Type 0 where
  done : Made [] []
  -- a word is its very bytes
  word_byte : {b : ℕ} {w : List ℕ} {s : List Piece} {bs : List ℕ} → Made (word w ∷ s) bs → Made (word (b ∷ w) ∷ s) (b ∷ bs)
  word_done : {s : List Piece} {bs : List ℕ} → Made s bs → Made (word [] ∷ s) bs
  -- a count is a digit, and then digits, none too
  digit_first : {b : ℕ} {s : List Piece} {bs : List ℕ} → is_digit b ≡ true → Made (more ∷ s) bs → Made (digits ∷ s) (b ∷ bs)
  digit_more : {b : ℕ} {s : List Piece} {bs : List ℕ} → is_digit b ≡ true → Made (more ∷ s) bs → Made (more ∷ s) (b ∷ bs)
  digits_done : {s : List Piece} {bs : List ℕ} → Made s bs → Made (more ∷ s) bs
  -- a number is a count, or a minus and a count
  number_minus : {s : List Piece} {bs : List ℕ} → Made (digits ∷ s) bs → Made (number ∷ s) (45 ∷ bs)
  number_plain : {s : List Piece} {bs : List ℕ} → Made (digits ∷ s) bs → Made (number ∷ s) bs
  -- further numbers come each after a blank
  others_blank : {s : List Piece} {bs : List ℕ} → Made (number ∷ others ∷ s) bs → Made (others ∷ s) (32 ∷ bs)
  others_done : {s : List Piece} {bs : List ℕ} → Made s bs → Made (others ∷ s) bs
  -- a name is bytes that are neither blanks nor brackets
  name_byte : {b : ℕ} {s : List Piece} {bs : List ℕ} → is_name_byte b ≡ true → Made (name ∷ s) bs → Made (name ∷ s) (b ∷ bs)
  name_done : {s : List Piece} {bs : List ℕ} → Made s bs → Made (name ∷ s) bs
  -- a text is any bytes and a closing bracket
  text_byte : {b : ℕ} {s : List Piece} {bs : List ℕ} → Made (text ∷ s) bs → Made (text ∷ s) (b ∷ bs)
  text_close : {s : List Piece} {bs : List ℕ} → Made s bs → Made (text ∷ s) (41 ∷ bs)
  -- after a closing bracket the text is done, or that was one of its bytes
  closed_done : {s : List Piece} {bs : List ℕ} → Made s bs → Made (closed ∷ s) bs
  closed_text : {s : List Piece} {bs : List ℕ} → Made (text ∷ s) bs → Made (closed ∷ s) bs

-- bytes are one of some forms
abbrev pub OneOf : List (List Piece) → List ℕ → Type 0
OneOf [] bs = ⊥
OneOf (f ∷ fs) bs = Made f bs ⊎ OneOf fs bs

abbrev pub IsForm : List ℕ → Type 0
IsForm bs = OneOf forms bs

-- bytes begin a form: with some further bytes they are one
abbrev pub Begins : List ℕ → Type 0
Begins bs = (r : List ℕ) × IsForm (bs ++ r)

-- the place where a line stops being a form: what stands before it begins a form, and with its byte it
-- no longer does; the place is the line's length where the line begins a form and is none
pub record StopsAt (line : List ℕ) (p : ℕ) : Type 0 where
  pub within : p ≤ length line
  pub before : Begins (take p line)
  pub there : p < length line → Begins (take (p + 1) line) → ⊥
  pub none : IsForm line → ⊥

-- a line is accepted just where it is a form, and else refused at the place where it stops being one
abbrev pub Parsed : {A : Type 0} → List ℕ → Result A ℕ → Type 0
Parsed line (Ok c) = IsForm line
Parsed line (Err p) = StopsAt line p
