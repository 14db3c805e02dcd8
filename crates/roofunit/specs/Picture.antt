-- How cells stand in a picture.
use Rattle.std.specs.Prelude.{ℕ, ◌-◌, List, ◌++◌, length, replicate, ℤ, Some, None, codes, Option}
use Rattle.std.specs.Fmt.{signed_decimal}

-- a cell is its value, or a dot where it is null
abbrev pub shown : Option ℤ → List ℕ
shown None = codes "."
shown (Some v) = signed_decimal v

-- text at the right end of a column
abbrev pub column : ℕ → List ℕ → List ℕ
column width bs = replicate (width - length bs) 32 ++ bs
