-- The pieces that forms are made of, and where a line stops being made of them.
use Rattle.std.specs.Prelude.{◌≡◌, ℕ, suc, ◌+◌, ◌≤◌, Bool, true, false, cond, not, ◌&&◌, List, [], ◌∷◌, ◌++◌, length, Some, None, Ok, Err, Option, Result, ◌==◌}
use Rattle.cursor.specs.declared.cursor.Cursor.{Cursor}
use Rattle.cursor.specs.Rest.{rest}
use Rattle.lines.specs.Numerals.{is_digit}

-- neither a blank nor a bracket
abbrev pub is_name_byte : ℕ → Bool
is_name_byte b = not (b == 32) && (not (b == 40) && not (b == 41))

abbrev pub is_grid_name : List ℕ → Bool
is_grid_name [] = true
is_grid_name (b ∷ bs) = is_name_byte b && is_grid_name bs

pub data Piece : Type 0 where
  -- these very bytes
  word : List ℕ → Piece
  -- digits, one at least; digits, none too
  digits : Piece
  more : Piece
  -- a number
  number : Piece
  -- any number of numbers, each after a blank
  others : Piece
  -- bytes that are neither a blank nor a bracket, none too
  name : Piece
  -- any bytes and a closing bracket; the same, or nothing, after a closing bracket
  text : Piece
  closed : Piece

-- ---- a byte after the other

pub data Next : Type 0 where
  stuck : Next
  onto : List Piece → Next

-- the pieces that are left after a byte
abbrev pub after : List Piece → ℕ → Next
after [] b = stuck
after (word [] ∷ s) b = after s b
after (word (c ∷ w) ∷ s) b = cond (b == c) (onto (word w ∷ s)) stuck
after (digits ∷ s) b = cond (is_digit b) (onto (more ∷ s)) stuck
after (more ∷ s) b = cond (is_digit b) (onto (more ∷ s)) (after s b)
after (number ∷ s) b = cond (b == 45) (onto (digits ∷ s)) (cond (is_digit b) (onto (more ∷ s)) stuck)
after (others ∷ s) b = cond (b == 32) (onto (number ∷ others ∷ s)) (after s b)
after (name ∷ s) b = cond (is_name_byte b) (onto (name ∷ s)) (after s b)
after (text ∷ s) b = cond (b == 41) (onto (closed ∷ s)) (onto (text ∷ s))
after (closed ∷ s) b = cond (b == 41) (onto (closed ∷ s)) (onto (text ∷ s))

-- whether nothing more has to come
abbrev pub complete : List Piece → Bool
complete [] = true
complete (word [] ∷ s) = complete s
complete (word (c ∷ w) ∷ s) = false
complete (digits ∷ s) = false
complete (more ∷ s) = complete s
complete (number ∷ s) = false
complete (others ∷ s) = complete s
complete (name ∷ s) = complete s
complete (text ∷ s) = false
complete (closed ∷ s) = complete s

abbrev pub follow : (List Piece → Option ℕ) → ℕ → Next → Option ℕ
follow f p stuck = Some p
follow f p (onto s) = f s

-- where bytes, of which the first is at place p, stop being made of the pieces; None where they are
unfoldable pub stop : ℕ → List Piece → List ℕ → Option ℕ
stop p s [] = cond (complete s) None (Some p)
stop p s (b ∷ bs) = follow (λ s'. stop (suc p) s' bs) p (after s b)

-- ---- what reading pieces from a place of a line on answers

-- the bytes w were read, and are the pieces: from there on the line is made of further pieces just where it was of these and those
pub record Reads (x : List Piece) (w : List ℕ) (from to : Cursor) : Type 0 where
  pub text : to.text.now ≡ from.text.now
  pub place : to.at ≡ from.at + length w
  pub bytes : rest from ≡ w ++ rest to
  pub turns : (s : List Piece) → stop from.at (x ++ s) (rest from) ≡ stop to.at s (rest to)

-- the line stops being made of the pieces at a place, whatever comes after them
pub record Stops (x : List Piece) (from : Cursor) (p : ℕ) : Type 0 where
  pub forward : from.at ≤ p
  pub within : p ≤ length from.text.now
  pub turns : (s : List Piece) → stop from.at (x ++ s) (rest from) ≡ Some p

-- bytes were read that say what is answered, or the line stops
abbrev pub Read : {A : Type 0} → List Piece → (List ℕ → A → Type 0) → Cursor → Cursor → Result A ℕ → Type 0
Read x P from to (Ok a) = (w : List ℕ) × Reads x w from to × P w a
Read x P from to (Err p) = Stops x from p

-- the same of pieces with which the line ends
abbrev pub Ends : {A : Type 0} → List Piece → (List ℕ → A → Type 0) → Cursor → Result A ℕ → Type 0
Ends x P from (Ok a) = (stop from.at x (rest from) ≡ None) × P (rest from) a
Ends x P from (Err p) = stop from.at x (rest from) ≡ Some p

-- the bytes are as f says, and are answered
abbrev pub IsPart : (List ℕ → Bool) → List ℕ → List ℕ → Type 0
IsPart f w a = (f w ≡ true) × (a ≡ w)
