-- The forms that a line may have, as rows of pieces.
use Rattle.std.specs.Prelude.{ℕ, max, Bool, true, false, cond, List, [], ◌∷◌, ◌++◌, Some, None, Ok, Err, codes, Option, Result}
use Rattle.lines.specs.Pieces.{Piece, word, digits, number, others, name, text, stop}

-- two numbers after an opening word: LO HI)
abbrev pub bounds_form : List ℕ → List Piece
bounds_form w = word w ∷ number ∷ word (codes " ") ∷ number ∷ word (codes ")") ∷ []

abbrev pub axis_form : Bool → List ℕ → List Piece
axis_form there w = cond there (bounds_form w) []

abbrev pub kind_form : Bool → List Piece
kind_form truth = cond truth (word (codes " (truth)") ∷ []) (bounds_form (codes " (span "))

-- (grid NAME (x LO HI) (y LO HI) (t LO HI) (span LO HI)), with or without y, with or without t, and
-- (truth) in place of the span
abbrev pub grid_form : Bool → Bool → Bool → List Piece
grid_form y t truth =
    word (codes "(grid ") ∷ name ∷ (bounds_form (codes " (x ") ++ (axis_form y (codes " (y ") ++ (axis_form t (codes " (t ") ++ (kind_form truth ++ (word (codes ")") ∷ [])))))

-- (strip C N ()) and (strip C N (V V ..))
abbrev pub strip_head : List Piece → List Piece
strip_head s = word (codes "(strip ") ∷ digits ∷ word (codes " ") ∷ digits ∷ word (codes " (") ∷ s

abbrev pub bare_form : List Piece
bare_form = strip_head (word (codes ")") ∷ word (codes ")") ∷ [])

abbrev pub strip_form : List Piece
strip_form = strip_head (number ∷ others ∷ word (codes ")") ∷ word (codes ")") ∷ [])

-- (look C X Y T)
abbrev pub look_form : List Piece
look_form = word (codes "(look ") ∷ digits ∷ word (codes " ") ∷ number ∷ word (codes " ") ∷ number ∷ word (codes " ") ∷ number ∷ word (codes ")") ∷ []

-- (show C), (run P)
abbrev pub count_form : List ℕ → List Piece
count_form w = word w ∷ digits ∷ word (codes ")") ∷ []

-- (check P TEXT): the closing bracket is the last byte of the line
abbrev pub check_form : List Piece
check_form = word (codes "(check ") ∷ digits ∷ word (codes " ") ∷ text ∷ []

-- (help)
abbrev pub help_form : List Piece
help_form = word (codes "(help") ∷ word (codes ")") ∷ []

abbrev pub grid_forms : List (List Piece)
grid_forms =
    grid_form false false false ∷ grid_form false false true ∷ grid_form true false false ∷ grid_form true false true
    ∷ grid_form false true false ∷ grid_form false true true ∷ grid_form true true false ∷ grid_form true true true ∷ []

abbrev pub other_forms : List (List Piece)
other_forms = bare_form ∷ strip_form ∷ look_form ∷ count_form (codes "(show ") ∷ check_form ∷ count_form (codes "(run ") ∷ help_form ∷ []

abbrev pub forms : List (List Piece)
forms = grid_forms ++ other_forms

-- ---- where a line stops being any of several forms: where it stops last; None where it is one

abbrev pub farther : Option ℕ → Option ℕ → Option ℕ
farther None q = None
farther (Some p) None = None
farther (Some p) (Some q) = Some (max p q)

abbrev pub stop_over : List (List Piece) → List ℕ → Option ℕ
stop_over [] bs = Some 0
stop_over (f ∷ fs) bs = farther (stop 0 f bs) (stop_over fs bs)

-- of two readings, the one that found something; where neither did, the place where the farther stopped
abbrev pub either : {A : Type 0} → Result A ℕ → Result A ℕ → Result A ℕ
either (Ok c) r = Ok c
either (Err p) (Ok c) = Ok c
either (Err p) (Err q) = Err (max p q)

-- the place that a reading answers
abbrev pub placed : {A : Type 0} → Result A ℕ → Option ℕ
placed (Ok c) = None
placed (Err p) = Some p
