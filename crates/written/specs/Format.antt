-- The lines that are printed, byte for byte.
use Rattle.std.specs.Prelude.{ℕ, List, ◌++◌, ℤ, Some, None, codes, decimal, Option}
use Rattle.std.specs.Fmt.{signed_decimal}
pub use Rattle.coverage.specs.Written.{layer_word, returned_words, refusal_line}

-- a grid was made: (grid 0)
abbrev pub grid_line : ℕ → List ℕ
grid_line c = codes "(grid " ++ (decimal c ++ codes ")")

-- a strip was put, the coverage before the strip: (strip 0 1)
abbrev pub strip_line : ℕ → ℕ → List ℕ
strip_line c n = codes "(strip " ++ (decimal c ++ (codes " " ++ (decimal n ++ codes ")")))

-- a cell: (cell 50), or (cell null)
abbrev pub cell_line : Option ℤ → List ℕ
cell_line None = codes "(cell null)"
cell_line (Some v) = codes "(cell " ++ (signed_decimal v ++ codes ")")

-- a line that is no form, by the place where it stops being one: (not a form: byte 7)
abbrev pub not_a_form : ℕ → List ℕ
not_a_form p = codes "(not a form: byte " ++ (decimal p ++ codes ")")
