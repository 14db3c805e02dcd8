-- Kinds and their values: null is None, a truth is 0 or 1, a number lies in its span.
use Rattle.std.specs.Prelude.{Bool, true, false, ◌&&◌, ℤ, pos, ◌≤ℤ◌, Some, None, Option, int_le}
use Rattle.coverage.specs.declared.kind.Kind.{Kind}
use Rattle.coverage.specs.declared.kind.Kind.TheVariants.{Truth, Number}

-- the lowest and the highest value of a kind
abbrev pub low : Kind → ℤ
low Truth = pos 0
low (Number r) = r.lo

abbrev pub high : Kind → ℤ
high Truth = pos 1
high (Number r) = r.hi

abbrev pub is_truth : Kind → Bool
is_truth Truth = true
is_truth (Number r) = false

-- whether a value is of a kind
abbrev pub fits : Kind → ℤ → Bool
fits k v = int_le (low k) v && int_le v (high k)

-- null, or a value of a kind
abbrev pub Within : Kind → Option ℤ → Type 0
Within k None = Unit {0}
Within k (Some v) = (low k ≤ℤ v) × (v ≤ℤ high k)
