-- Entries of the answer area.
use Rattle.std.specs.Prelude.{true, false, ℤ, pos, Some, None, Option}
use Rattle.lives.specs.declared.cell.Cell.{Cell}

-- null is 0 and unknown; a truth is 0 or 1
abbrev pub entry : Option ℤ → Cell
entry None = record { value = pos 0; known = false }
entry (Some v) = record { value = v; known = true }
